mod CallOrder
mod Promised
mod SingleBlock
mod Named
pub mod Numbers
