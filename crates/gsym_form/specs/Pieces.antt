-- What the private functions that write a file's text are held to, beside the text itself.
-- Assumes nothing.
use Rattle.std.specs.Prelude.{ℕ, Bool, not, ◌&&◌, ◌||◌, nat_le, ◌==◌, List}
use Rattle.std.specs.List.{prefix_len}

-- a byte that stands in a text as it is
abbrev pub is_plain : ℕ → Bool
is_plain b = not ((b == 34) || (b == 92)) && (nat_le 32 b && nat_le b 126)

-- how many bytes stand before the first that doesn't
abbrev pub plain_len : List ℕ → ℕ
plain_len bytes = prefix_len is_plain bytes

-- how many bytes stand before the first zero byte
abbrev pub text_len : List ℕ → ℕ
text_len bytes = prefix_len (λ b. not (b == 0)) bytes
