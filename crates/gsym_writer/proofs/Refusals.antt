-- A file is written exactly where nothing refuses, and else the first refusal is told, and no other.
-- Assumes nothing.
use Rattle.std.proofs.Common.{◌≡◌, ◌↔◌, ℕ, ◌<◌, ◌≤◌, true, false, Bool, length, refl, sym, ap, subst, ◌∙◌, None}
use Rattle.std.proofs.Common.{Result, Ok, Err, arith}
use Rattle.std.specs.Prelude.{IsOk, IsErrOf, nat_le}
use Rattle.std.specs.List.{All}
use Rattle.std.proofs.lemmas.Bool.{leb-true, leb-false, le-leb, lt-leb}
use Rattle.gsym_reads.specs.Steps.{◌>>◌, need}
use Rattle.gsym_reads.proofs.Steps.{by_test}
use Rattle.gsym_layout.specs.Given.{GivenEntry, Given}
use Rattle.gsym_layout.specs.Layout.{layout_of}
use Rattle.gsym_layout.specs.Writable.{AllItems, Rises, SumFits, NameReads, FileReads, IsNoEnd, Writable}
use Rattle.gsym_inline.specs.Limits.{most_address}
use Rattle.gsym_writer.specs.Ends.{told_len}
use Rattle.gsym_writer.specs.Refused.{IsFirstRefusal, IsSound, not_rising, sum_too_large, unread_name, unread_file}
use Rattle.gsym_writer.specs.Refused.{end_item, too_large, too_little_room}
use Rattle.gsym_writer.specs.Writing.{rising, all_pass, sum_fits, name_reads, file_reads, has_no_end, all_of_32}
use Rattle.gsym_writer.specs.Writing.{said_judged, judged, write_of}
use Rattle.gsym_writer.specs.declared.error.WriteError.{WriteError}
use Rattle.gsym_writer.specs.declared.error.WriteError.TheVariants.{SumTooLarge, UnreadName, UnreadFile}
use Rattle.gsym_writer.specs.declared.error.WriteError.TheVariants.{EndItem, TooLarge, TooLittleRoom}
use Rattle.gsym_writer.proofs.Rising.{RiseSettled, rise_settles, rise_ok, rise_err}
use Rattle.gsym_writer.proofs.Passing.{PassSettled, pass_settles, all_ok, pass_err}
use Rattle.gsym_writer.proofs.Tests.{sum_test, name_test, file_test, end_test, of_32_test}

-- a step of which something is known in both outcomes
by_step :
    {A B E : Type 0} (P : Result B E → Type 0) (Q : Result A E → Type 0) (r : Result A E) (s : Result B E) → Q r →
    ((e : E) → Q (Err e) → P (Err e)) → ((x : A) → Q (Ok x) → P s) → P (r >> s)
by_step P Q (Ok x) s q n t = t x q
by_step P Q (Err e) s q n t = n e q

module _ (g : Given) (room : ℕ) where
  abbrev ends_hold : GivenEntry → Type 0
  ends_hold e = All IsNoEnd e.items

  record Said : Type 0 where
    rises : Rises g
    sums : All SumFits g.entries
    names : All (NameReads g.tables) g.entries
    files : All (FileReads g.tables) g.tables.files
    no_ends : AllItems IsNoEnd g.entries

  -- ---- what is found

  abbrev SaidSettled : Result (Unit {0}) WriteError → Type 0
  SaidSettled (Ok u) = Said
  SaidSettled (Err e) = IsFirstRefusal g room e

  abbrev JudgedSettled : Result (Unit {0}) WriteError → Type 0
  JudgedSettled (Ok u) = Writable g
  JudgedSettled (Err e) = IsFirstRefusal g room e

  abbrev WriteSettled : Result ℕ WriteError → Type 0
  WriteSettled (Ok n) = IsSound g room
  WriteSettled (Err e) = IsFirstRefusal g room e

  said_settles : SaidSettled (said_judged g)
  unfolding said_judged
  said_settles =
      by_step SaidSettled (RiseSettled g.entries) (rising None 0 g.entries) _ (rise_settles g.entries)
      (λ e f. subst (IsFirstRefusal g room) (sym f.is) (not_rising f.index f.lowest))
      (λ u rises. by_step SaidSettled (PassSettled sum_fits SumFits sum_test SumTooLarge g.entries) _ _
      (pass_settles sum_fits SumFits sum_test SumTooLarge g.entries)
      (λ e f. subst (IsFirstRefusal g room) (sym f.is) (sum_too_large f.index rises f.lowest))
      (λ v sums. by_step SaidSettled
      (PassSettled (name_reads g.tables) (NameReads g.tables) (name_test g.tables) UnreadName g.entries) _ _
      (pass_settles (name_reads g.tables) (NameReads g.tables) (name_test g.tables) UnreadName g.entries)
      (λ e f. subst (IsFirstRefusal g room) (sym f.is) (unread_name f.index rises sums f.lowest))
      (λ w names. by_step SaidSettled
      (PassSettled (file_reads g.tables) (FileReads g.tables) (file_test g.tables) UnreadFile g.tables.files) _ _
      (pass_settles (file_reads g.tables) (FileReads g.tables) (file_test g.tables) UnreadFile g.tables.files)
      (λ e f. subst (IsFirstRefusal g room) (sym f.is) (unread_file f.index rises sums names f.lowest))
      (λ x files. ends rises sums names files (all_pass has_no_end EndItem 0 g.entries)
      (pass_settles has_no_end ends_hold end_test EndItem g.entries)))))
    where
      ends :
          Rises g → All SumFits g.entries → All (NameReads g.tables) g.entries →
          All (FileReads g.tables) g.tables.files → (r : Result (Unit {0}) WriteError) →
          PassSettled has_no_end ends_hold end_test EndItem g.entries r → SaidSettled r
      ends rises sums names files (Ok u) no_ends =
          record { rises = rises; sums = sums; names = names; files = files; no_ends = no_ends }
      ends rises sums names files (Err e) f =
          subst (IsFirstRefusal g room) (sym f.is) (end_item f.index rises sums names files f.lowest)

  judged_settles : JudgedSettled (judged g)
  unfolding judged
  judged_settles =
      by_step JudgedSettled SaidSettled (said_judged g) _ said_settles (λ e f. f)
      (λ u s. go s (all_of_32 g) refl)
    where
      go : Said → (b : Bool) → all_of_32 g ≡ b → JudgedSettled (need b TooLarge)
      go s true e = record {
        rises = s.rises;
        sums = s.sums;
        names = s.names;
        files = s.files;
        no_ends = s.no_ends;
        of_32 = (of_32_test g).0 e;
      }
      go s false e = too_large s.rises s.sums s.names s.files s.no_ends (λ F. let t = (of_32_test g).1 F in absurd cc)

  write_settles : WriteSettled (write_of g room)
  unfolding write_of
  write_settles =
      by_step WriteSettled JudgedSettled (judged g) _ judged_settles (λ e f. f)
      (λ u w. by_test WriteSettled (nat_le (length (layout_of g)) room)
      (TooLittleRoom (told_len (length (layout_of g)))) _
      (λ f. too_little_room w (leb-false (length (layout_of g)) room f))
      (λ t. record { writable = w; fits = leb-true (length (layout_of g)) room t }))

  pub writable : (n : ℕ) → write_of g room ≡ Ok n → Writable g
  writable n e = let s : IsSound g room = subst WriteSettled e write_settles in s.writable

  -- ---- and nothing else

  pub judged_ok : Writable g → judged g ≡ Ok tt
  unfolding judged said_judged
  judged_ok W =
      rw (
        rise_ok g.entries W.rises,
        all_ok sum_fits SumFits sum_test SumTooLarge g.entries 0 W.sums,
        all_ok (name_reads g.tables) (NameReads g.tables) (name_test g.tables) UnreadName g.entries 0 W.names,
        all_ok (file_reads g.tables) (FileReads g.tables) (file_test g.tables) UnreadFile g.tables.files 0 W.files,
        all_ok has_no_end ends_hold end_test EndItem g.entries 0 W.no_ends,
        (of_32_test g).1 W.of_32,
      ) refl

  sound_writes : IsSound g room → write_of g room ≡ Ok (length (layout_of g))
  unfolding write_of
  sound_writes S = rw (judged_ok S.writable, le-leb (length (layout_of g)) room S.fits) refl

  only_refusal : (e : WriteError) → IsFirstRefusal g room e → write_of g room ≡ Err e
  unfolding write_of judged said_judged
  only_refusal e (not_rising i L) = rw (rise_err g.entries i L) refl
  only_refusal e (sum_too_large i r L) =
      rw (rise_ok g.entries r, pass_err sum_fits SumFits sum_test SumTooLarge g.entries i L) refl
  only_refusal e (unread_name i r s L) =
      rw (
        rise_ok g.entries r,
        all_ok sum_fits SumFits sum_test SumTooLarge g.entries 0 s,
        pass_err (name_reads g.tables) (NameReads g.tables) (name_test g.tables) UnreadName g.entries i L,
      ) refl
  only_refusal e (unread_file i r s n L) =
      rw (
        rise_ok g.entries r,
        all_ok sum_fits SumFits sum_test SumTooLarge g.entries 0 s,
        all_ok (name_reads g.tables) (NameReads g.tables) (name_test g.tables) UnreadName g.entries 0 n,
        pass_err (file_reads g.tables) (FileReads g.tables) (file_test g.tables) UnreadFile g.tables.files i L,
      ) refl
  only_refusal e (end_item i r s n f L) =
      rw (
        rise_ok g.entries r,
        all_ok sum_fits SumFits sum_test SumTooLarge g.entries 0 s,
        all_ok (name_reads g.tables) (NameReads g.tables) (name_test g.tables) UnreadName g.entries 0 n,
        all_ok (file_reads g.tables) (FileReads g.tables) (file_test g.tables) UnreadFile g.tables.files 0 f,
        pass_err has_no_end ends_hold end_test EndItem g.entries i L,
      ) refl
  only_refusal e (too_large r s n f d N) =
      rw (
        rise_ok g.entries r,
        all_ok sum_fits SumFits sum_test SumTooLarge g.entries 0 s,
        all_ok (name_reads g.tables) (NameReads g.tables) (name_test g.tables) UnreadName g.entries 0 n,
        all_ok (file_reads g.tables) (FileReads g.tables) (file_test g.tables) UnreadFile g.tables.files 0 f,
        all_ok has_no_end ends_hold end_test EndItem g.entries 0 d,
        false_is (all_of_32 g) refl,
      ) refl
    where
      false_is : (b : Bool) → all_of_32 g ≡ b → b ≡ false
      false_is true t = absurd (N ((of_32_test g).0 t))
      false_is false t = refl
  only_refusal e (too_little_room W l) = rw (judged_ok W, lt-leb (length (layout_of g)) room l) refl

  -- ---- as a function tells it

  module _ (r : Result ℕ WriteError) (E : r ≡ write_of g room) where
    pub refused : (e : WriteError) → IsErrOf r e ↔ IsFirstRefusal g room e
    refused e = (λ h. subst WriteSettled (sym E ∙ h) write_settles, λ f. E ∙ only_refusal e f)

    pub sound : IsOk r ↔ IsSound g room
    sound = (λ h. go r E h, λ S. rw (E ∙ sound_writes S) refl)
      where
        go : (x : Result ℕ WriteError) → x ≡ write_of g room → IsOk x → IsSound g room
        go (Ok n) q h = subst WriteSettled (sym q) write_settles
        go (Err d) q h = absurd cc

  -- ---- step by step, as it is written

  pub said_fails : (e : WriteError) → Err e ≡ said_judged g → Err e ≡ write_of g room
  unfolding write_of judged
  said_fails e q = rw (← q) refl

  module _ (S : Ok tt ≡ said_judged g) where
    pub plan_fails : all_of_32 g ≡ false → Err TooLarge ≡ write_of g room
    unfolding write_of judged
    plan_fails f = rw (← S, f) refl

    module _ (F : all_of_32 g ≡ true) (len : ℕ) (L : len ≡ told_len (length (layout_of g))) where
      pub room_fails : room < len → Err (TooLittleRoom len) ≡ write_of g room
      unfolding write_of judged
      room_fails l =
          rw (← S, F, lt-leb (length (layout_of g)) room (omega (arith, L, l))) (ap (λ n. Err (TooLittleRoom n)) L)

      pub writes : len ≤ room → room < most_address → (n : ℕ) → n ≡ length (layout_of g) → Ok n ≡ write_of g room
      unfolding write_of judged
      writes l m n e = rw (← S, F, le-leb (length (layout_of g)) room (omega (arith, L, l, m))) (ap Ok e)
