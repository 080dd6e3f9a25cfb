-- A page after one more character, and after a part of a text.
use Rattle.std.proofs.Common.{◌≡◌, ◌<◌, ◌≤◌, ◌+◌, ◌-◌, ◌++◌, ◌∷◌, ◌∙◌, ℕ, Bool, true, false, List, [], ap, sym, subst, refl, rules, arith, add-one, zero-add, drop, drop-cons, get_or, length}
use Rattle.std.proofs.lemmas.Str.{chars-nil, chars-append, chars-encodes}
use Rattle.std.proofs.lemmas.List.{append_assoc, append-nil}
use Rattle.std.proofs.lemmas.List.Folds.{list_all-append}
use Rattle.std.specs.Prelude.{◌&&◌}
use Rattle.std.specs.Prelude.{Result, Ok, Err, IfOk, encode_utf8, if◌then◌else◌, sum_by}
use Rattle.std.specs.Result.{is_ok}
use Rattle.std.specs.List.{flat_map, list_all}
use Rattle.std.specs.Char.{IsScalar}
use Rattle.std.specs.Str.{IsUtf8, IsCharBoundary, chars}
use Rattle.std.proofs.lemmas.Grind.{flat_map-append}
use Rattle.std.proofs.lemmas.List.Sums.{sum_by-append}
use Rattle.yf_chars.specs.Text.{CharAt, code}
use Rattle.yf_lines.proofs.PlaceLemmas.{characters_more}
use Rattle.yf_explain.specs.Shown.{AreWritten, all_shown, columns, columns_of, is_written, shown}
use Rattle.yf_explain.specs.Source.{AddsPart}
use Rattle.yf_lines.proofs.CoreSteady.{both_parts}

pub none_there : (bs : List ℕ) → bs ≡ [] → chars bs ≡ []
none_there bs e = ap chars e ∙ chars-nil

pub none_written : (bs : List ℕ) → bs ≡ [] → AreWritten (chars bs)
none_written bs e = rw (none_there bs e) refl

alone : (c : ℕ) → IsScalar c → chars (encode_utf8 c) ≡ c ∷ []
alone c s = subst (λ (x : List ℕ). chars x ≡ c ∷ []) (append-nil (encode_utf8 c)) (chars-encodes (c ∷ []) (rw s refl))

one_more : (bs : List ℕ) (c : ℕ) → IsUtf8 bs → IsScalar c → chars (bs ++ encode_utf8 c) ≡ chars bs ++ c ∷ []
one_more bs c u s = chars-append bs (encode_utf8 c) u ∙ ap (λ x. chars bs ++ x) (alone c s)

-- a character was added to a text without an error
module _ (bs : List ℕ) (c : ℕ) (u : IsUtf8 bs) (s : IsScalar c) where
  pub still_written : (added : Bool) (ds : List ℕ) → ds ≡ (if added then bs ++ encode_utf8 c else bs) → AreWritten (chars bs) → is_written c ≡ true → AreWritten (chars ds)
  still_written true ds e w h = rw e (rw (one_more bs c u s) (rw (list_all-append is_written (chars bs) (c ∷ [])) (rw (w, h) refl)))
  still_written false ds e w h = rw e w

  pub was_added : {A E : Type 0} (r : Result A E) (ds old : List ℕ) → ds ≡ (if is_ok r then bs ++ encode_utf8 c else bs) → chars bs ≡ old → IfOk r (λ _. chars ds ≡ old ++ c ∷ [])
  was_added (Ok a) ds old e v = ap chars e ∙ one_more bs c u s ∙ ap (λ x. x ++ c ∷ []) v
  was_added (Err e) ds old f v = tt

-- one character and then another one
pub then_more : {A E : Type 0} (r : Result A E) (old new all : List ℕ) (a b c d : ℕ) → new ≡ old ++ a ∷ [] → a ≡ c → b ≡ d → IfOk r (λ _. all ≡ new ++ b ∷ [])
    → IfOk r (λ _. all ≡ old ++ (c ∷ d ∷ []))
then_more (Ok x) old new all a b c d first e f second = second ∙ (ap (λ v. v ++ b ∷ []) first ∙ (append_assoc old (a ∷ []) (b ∷ []) ∙ ap (λ v. old ++ v) (cc (e, f))))
then_more (Err x) old new all a b c d first e f second = tt

-- the shown characters and their columns after one more
all_and_one : (cs : List ℕ) (c d : ℕ) → c ≡ d → all_shown (cs ++ c ∷ []) ≡ all_shown cs ++ shown d
all_and_one cs c d e = flat_map-append shown cs (c ∷ []) ∙ ap (λ x. all_shown cs ++ x) (append-nil (shown c) ∙ ap shown e)

columns_and_one : (cs : List ℕ) (c d : ℕ) → c ≡ d → columns (cs ++ c ∷ []) ≡ columns cs + columns_of d
columns_and_one cs c d e =
    let joined : columns (cs ++ c ∷ []) ≡ columns cs + columns (c ∷ []) = sum_by-append columns_of cs (c ∷ []) in
    let one : columns (c ∷ []) ≡ columns_of d = zero-add (columns_of c) ∙ ap columns_of e in
    joined ∙ ap (λ n. columns cs + n) one

-- a part of a text with one more character
pub part_more : {t old new all : List ℕ} {from to most end taken c next width : ℕ} → AddsPart t from to most old new end taken → CharAt t end c next
    → all ≡ new ++ shown c → width ≡ columns_of c → next ≤ to → taken + width ≤ most → AddsPart t from to most old all next (taken + width)
part_more {t} {old} {new} {all} {from} {to} {most} {end} {taken} {c} {next} {width} part r e w within room = record {
  characters = part.characters ++ code t end ∷ [];
  run = characters_more t from end c next part.characters part.run r;
  added = e ∙ (ap (λ x. x ++ shown c) part.added ∙ (append_assoc old (all_shown part.characters) (shown c) ∙ ap (λ x. old ++ x) (sym (all_and_one part.characters (code t end) c r.char))));
  takes = cc (part.takes, w, columns_and_one part.characters (code t end) c r.char);
  room = room;
  within = within;
  boundary = r.boundary;
}

-- the remaining signs, before and after one of them
pub next_sign : (signs : List ℕ) (k d : ℕ) → k < length signs → list_all is_written (drop k signs) ≡ true
    → (is_written (get_or signs k d) ≡ true) × (list_all is_written (drop (k + 1) signs) ≡ true)
next_sign signs k d within all =
    let cut : drop k signs ≡ get_or signs k d ∷ drop (k + 1) signs = rw add-one (drop-cons signs k d within) in
    let both : (is_written (get_or signs k d) && list_all is_written (drop (k + 1) signs)) ≡ true = subst (λ (x : List ℕ). list_all is_written x ≡ true) cut all in
    both_parts _ _ both

-- one of them was added
pub sign_added : (signs : List ℕ) (k d : ℕ) (old new all : List ℕ) → k < length signs → new ≡ old ++ get_or signs k d ∷ [] → old ++ drop k signs ≡ all → new ++ drop (k + 1) signs ≡ all
sign_added signs k d old new all within added left =
    let cut : drop k signs ≡ get_or signs k d ∷ drop (k + 1) signs = rw add-one (drop-cons signs k d within) in
    ap (λ x. x ++ drop (k + 1) signs) added ∙ (append_assoc old (get_or signs k d ∷ []) (drop (k + 1) signs) ∙ (ap (λ x. old ++ x) (sym cut) ∙ left))
