-- The addresses of words, one after the other; the objects of addresses likewise.
-- Assumes nothing.
use Rattle.std.proofs.Common.{◌≡◌, ℕ, ◌+◌, ◌<◌, ◌≤◌, List, [], ◌∷◌, ◌++◌, length, get_or, drop, map, Option, Some, refl}
use Rattle.std.proofs.Common.{sym, ap, ◌∙◌, append-nil}
use Rattle.std.proofs.Math.ListN.{drop_of_length-le}
use Rattle.std.specs.List.{flat_map, enumerate_from}
use Rattle.std.specs.Io.KnownBytes.{Appends}
use Rattle.std.proofs.KnownBytes.{Appends-nil, Appends-trans}
use Rattle.gsym_types.specs.declared.Address.{Address}
use Rattle.gsym_printed.specs.Words.{address_of}
use Rattle.gsym_report.proofs.LineTexts.{drop-next}
use Rattle.gsym_tool.specs.Reports.{AreAddresses, json_line, json_report_of, is_known_json, all_known_json}
use Rattle.gsym_tool.proofs.Knowing.{and-all, and-and}
use Rattle.std.proofs.Common.{Bool, ◌&&◌}
use Rattle.std.specs.List.{list_all}

-- those so far, and those of the words that are left, are those of all
abbrev pub AddressesTo : (words left : List (List ℕ)) → List Address → Type 0
AddressesTo words left addresses = map (λ a. Some a.0) addresses ++ map address_of left ≡ map address_of words

said-more : (addresses : List Address) (a : Address) (rest : List (Option ℕ))
    → map (λ x. Some x.0) (addresses ++ a ∷ []) ++ rest ≡ map (λ x. Some x.0) addresses ++ Some a.0 ∷ rest
said-more [] a rest = refl
said-more (x ∷ addresses) a rest = ap (λ os. Some x.0 ∷ os) (said-more addresses a rest)

pub addressed_more : (words left behind : List (List ℕ)) (addresses more : List Address) (word : List ℕ) (a : Address)
    → AddressesTo words left addresses → left ≡ word ∷ behind → Some a.0 ≡ address_of word
    → more ≡ addresses ++ a ∷ [] → AddressesTo words behind more
addressed_more words left behind addresses more word a h l e m =
    rw m
    (said-more addresses a (map address_of behind)
    ∙ ap (λ o. map (λ x. Some x.0) addresses ++ o ∷ map address_of behind) e
    ∙ ap (λ ws. map (λ x. Some x.0) addresses ++ map address_of ws) (sym l) ∙ h)

pub addressed_end : (words left : List (List ℕ)) (addresses : List Address) → AddressesTo words left addresses
    → left ≡ [] → AreAddresses words addresses
addressed_end words left addresses h l =
    sym h ∙ ap (λ ws. map (λ x. Some x.0) addresses ++ map address_of ws) l
    ∙ append-nil (map (λ x. Some x.0) addresses)

-- the same of a list that has the words
pub addressed_next : {X : Type 0} (f : X → List ℕ) (xs : List X) (i : ℕ) (d : X) (addresses more : List Address)
    (a : Address) → i < length xs → AddressesTo (map f xs) (map f (drop i xs)) addresses
    → Some a.0 ≡ address_of (f (get_or xs i d)) → more ≡ addresses ++ a ∷ []
    → AddressesTo (map f xs) (map f (drop (i + 1) xs)) more
addressed_next f xs i d addresses more a l h e m =
    addressed_more (map f xs) (map f (drop i xs)) (map f (drop (i + 1) xs)) addresses more (f (get_or xs i d)) a h
    (ap (map f) (drop-next xs i d l)) e m

pub addressed_last : {X : Type 0} (f : X → List ℕ) (xs : List X) (i : ℕ) (addresses : List Address) → length xs ≤ i
    → AddressesTo (map f xs) (map f (drop i xs)) addresses → AreAddresses (map f xs) addresses
addressed_last f xs i addresses l h =
    addressed_end (map f xs) (map f (drop i xs)) addresses h (rw (drop_of_length-le xs l) refl)

-- ---- objects

abbrev pub json_from : List ℕ → ℕ → List Address → List ℕ
json_from file index addresses = flat_map (λ p. json_line file p.0 p.1) (enumerate_from index addresses)

-- whoever appends the objects of the addresses that are left has appended those of all
abbrev pub ObjectsLeft : Option (List ℕ) → Option (List ℕ) → List ℕ → ℕ → List Address → Type 0
ObjectsLeft old now file index addresses =
    (c : Option (List ℕ)) → Appends now c (json_from file index (drop index addresses))
    → Appends old c (json_report_of file addresses)

pub objects_start : (old : Option (List ℕ)) (file : List ℕ) (addresses : List Address)
    → ObjectsLeft old old file 0 addresses
objects_start old file addresses = λ c p. p

pub objects_on : (old now next : Option (List ℕ)) (file : List ℕ) (index : ℕ) (addresses : List Address) (a : Address)
    → index < length addresses → ObjectsLeft old now file index addresses
    → Appends now next (json_line file index (get_or addresses index a))
    → ObjectsLeft old next file (index + 1) addresses
objects_on old now next file index addresses a l h p =
    λ c q. h c
    (rw (drop-next addresses index a l)
    (Appends-trans now next c (json_line file index (get_or addresses index a))
    (json_from file (index + 1) (drop (index + 1) addresses)) p q))

-- whether those so far, and those that are left, are known is whether all are
abbrev pub known_from : List ℕ → ℕ → List Address → Bool
known_from file index addresses = list_all (λ p. is_known_json file p.0 p.1) (enumerate_from index addresses)

abbrev pub KnownSoFar : Bool → List ℕ → ℕ → List Address → Type 0
KnownSoFar all file index addresses =
    all_known_json file addresses ≡ (all && known_from file index (drop index addresses))

pub known_on : (all known now : Bool) (file : List ℕ) (index : ℕ) (addresses : List Address) (a : Address)
    → index < length addresses → KnownSoFar all file index addresses
    → known ≡ is_known_json file index (get_or addresses index a) → now ≡ (all && known)
    → KnownSoFar now file (index + 1) addresses
known_on all known now file index addresses a l h k m =
    h
    ∙ ap (λ ys. all && known_from file index ys) (drop-next addresses index a l)
    ∙ ap (λ b. all && (b && known_from file (index + 1) (drop (index + 1) addresses))) (sym k)
    ∙ and-and all known (known_from file (index + 1) (drop (index + 1) addresses))
    ∙ ap (λ b. b && known_from file (index + 1) (drop (index + 1) addresses)) (sym m)

pub known_last : (all : Bool) (file : List ℕ) (index : ℕ) (addresses : List Address) → length addresses ≤ index
    → KnownSoFar all file index addresses → all ≡ all_known_json file addresses
known_last all file index addresses l h =
    sym (h ∙ ap (λ ys. all && known_from file index ys) (drop_of_length-le addresses l) ∙ and-all all)

pub objects_end : (old now : Option (List ℕ)) (file : List ℕ) (index : ℕ) (addresses : List Address)
    → length addresses ≤ index → ObjectsLeft old now file index addresses
    → Appends old now (json_report_of file addresses)
objects_end old now file index addresses l h = h now (rw (drop_of_length-le addresses l) (Appends-nil now))
