-- Reading a written baseline.
use Rattle.std.proofs.Common.{◌≡◌, ◌≢◌, ℕ, ◌+◌, ◌-◌, ◌^◌, ◌<◌, Bool, true, false, List, [], ◌∷◌, ◌++◌, length, take, drop, get_or}
use Rattle.std.proofs.Common.{Option, None, Some, Ok, option_and_then, decimal, codes}
use Rattle.std.proofs.Common.{refl, sym, ap, ◌∙◌, arith}
use Rattle.std.specs.Option.{ok_or}
use Rattle.std.specs.Prelude.{◌==◌, slice_index}
use Rattle.std.specs.Str.{all_ascii_digits}
use Rattle.std.specs.Str.Parse.{IsNumeral, ParsesUnsigned, digits_value, without_leading_plus}
use Rattle.std.proofs.lemmas.Bool.{and_from, and_parts, eqb-true, lt-ltb, ltb-true}
use Rattle.std.proofs.lemmas.List.{drop_all, drop_more, take-append-drop}
use Rattle.std.proofs.lemmas.Fmt.{decimal_is_IsNumeral}
use Rattle.std.proofs.lemmas.Str.Parse.{IsNumeralModel, not_in_digits, numerals_by_value, tells_all_ascii_digits}
use Rattle.std.proofs.lemmas.Str.Parse.{without_leading_plus_none}
use Rattle.std.specs.Prelude.{MatchOption}
use Rattle.json.specs.Json.{Json, document}
use Rattle.json.specs.Find.{as_number, get}
use Rattle.yf_baseline.specs.Baselines.{AllFit, baseline_in, baseline_json, baseline_text, entries_from, entry_in}
use Rattle.yf_baseline.specs.Baselines.{entry_items, entry_json, if_json, is_number}
use Rattle.yf_baseline.specs.Baselines.{number_from, number_in, text_in, without_feed}
use Rattle.yf_baseline.specs.declared.entry.Entry.{Entry}
use Rattle.yf_baseline.proofs.TextLemmas.{document-body, without_feed-text}

-- ---- the end of the text

-- a text without a line feed at its end is unchanged
pub no_feed : (text : List ℕ) → ((front : List ℕ) → text ≢ front ++ 10 ∷ []) → text ≡ without_feed text
no_feed [] h = refl
no_feed (x ∷ xs) h = cases (slice_index (x ∷ xs) (length (x ∷ xs) - 1) == 10) refl
  where
    cases : (b : Bool) → (slice_index (x ∷ xs) (length (x ∷ xs) - 1) == 10) ≡ b → (x ∷ xs) ≡ without_feed (x ∷ xs)
    cases true same =
        let n = length (x ∷ xs) - 1 in
        let within : n < length (x ∷ xs) = omega arith in
        let end : drop n (x ∷ xs) ≡ 10 ∷ [] =
        drop_more (x ∷ xs) n 0 within
        ∙ ap (λ y. y ∷ drop (n + 1) (x ∷ xs)) (eqb-true (slice_index (x ∷ xs) n) 10 same)
        ∙ ap (λ l. 10 ∷ l) (drop_all (n + 1) (x ∷ xs) (omega arith)) in
        absurd (h (take n (x ∷ xs)) (sym (take-append-drop n (x ∷ xs)) ∙ ap (λ l. take n (x ∷ xs) ++ l) end))
    cases false other = rw other refl

-- ---- numbers

own : IsNumeralModel (λ ds. all_ascii_digits ds ≡ true) (digits_value 10)
own = numerals_by_value _ tells_all_ascii_digits

numeral_is : (ds : List ℕ) → IsNumeral 10 ds → digits_value 10 ds < 2 ^ 64 → is_number ds ≡ true
numeral_is ds h small =
    and_from _ _ (own.from ds h.1) (and_from _ _ (lt-ltb 0 (length ds) h.0) (lt-ltb (digits_value 10 ds) (2 ^ 64) small))

is_numeral : (ds : List ℕ) → is_number ds ≡ true → IsNumeral 10 ds × (digits_value 10 ds < 2 ^ 64)
is_numeral ds h =
    let a = and_parts _ _ h in
    let b = and_parts _ _ a.1 in
    ((ltb-true 0 (length ds) b.0, own.to ds a.0), ltb-true (digits_value 10 ds) (2 ^ 64) b.1)

-- the result of std's reader of numbers
pub parsed_is : (s : List ℕ) (r : Option ℕ) → ParsesUnsigned 64 10 s (ok_or r s) → r ≡ number_from s
parsed_is s (Some n) h = rw (numeral_is (without_leading_plus s) h.0.0 h.0.1) (ap Some h.1)
parsed_is s None h = cases (is_number (without_leading_plus s)) refl
  where
    cases : (b : Bool) → is_number (without_leading_plus s) ≡ b → None ≡ number_from s
    cases true holds = absurd (h (is_numeral (without_leading_plus s) holds))
    cases false fails = rw fails refl

number_of_text : (o : Option (List ℕ)) (r : Option ℕ) →
    MatchOption o (r ≡ None) (λ s. ParsesUnsigned 64 10 s (ok_or r s)) → r ≡ option_and_then number_from o
number_of_text None r h = h
number_of_text (Some s) r h = parsed_is s r h

-- the number of a member that is present
pub number_is : (name : List ℕ) (j member : Json) (r : Option ℕ) → Some member ≡ get name j →
    MatchOption (as_number member) (r ≡ None) (λ s. ParsesUnsigned 64 10 s (ok_or r s)) → r ≡ number_in name j
number_is name j member r e h =
    number_of_text (as_number member) r h ∙ ap (λ o. option_and_then number_from (option_and_then as_number o)) e

number_back : (n : ℕ) → n < 2 ^ 64 → number_from (decimal n) ≡ Some n
number_back n small =
    let h = decimal_is_IsNumeral n small in
    let digits = own.from (decimal n) h.0.1 in
    let plus : get_or (decimal n) 0 0 ≢ 43 = not_in_digits own (decimal n) 43 digits (λ r. omega arith) 0 h.0.0 in
    let fits : digits_value 10 (decimal n) < 2 ^ 64 = omega (arith, h.1) in
    rw (without_leading_plus_none (decimal n) plus, numeral_is (decimal n) h.0 fits) (ap Some h.1)

-- ---- entries

pub entry_back : (e : Entry) → e.ordinal < 2 ^ 64 → entry_in (entry_json e) ≡ Some e
unfolding entry_in entry_json
entry_back e small = rw (number_back e.ordinal small) refl

-- the members of an entry, one after another
module _ (j : Json) where
  pub no_file : None ≡ text_in (codes "file") j → None ≡ entry_in j
  unfolding entry_in
  no_file h = rw (sym h) refl

  pub no_hash : (file : List ℕ) → Some file ≡ text_in (codes "file") j → None ≡ text_in (codes "hash") j →
      None ≡ entry_in j
  unfolding entry_in
  no_hash file f h = rw (sym f, sym h) refl

  pub no_ordinal : (file hash : List ℕ) → Some file ≡ text_in (codes "file") j →
      Some hash ≡ text_in (codes "hash") j → None ≡ number_in (codes "ordinal") j → None ≡ entry_in j
  unfolding entry_in
  no_ordinal file hash f h o = rw (sym f, sym h, sym o) refl

  pub no_rule : (file hash : List ℕ) (ordinal : ℕ) → Some file ≡ text_in (codes "file") j →
      Some hash ≡ text_in (codes "hash") j → Some ordinal ≡ number_in (codes "ordinal") j →
      None ≡ text_in (codes "rule") j → None ≡ entry_in j
  unfolding entry_in
  no_rule file hash ordinal f h o r = rw (sym f, sym h, sym o, sym r) refl

  pub all_members : (file hash : List ℕ) (ordinal : ℕ) (rule : List ℕ) → Some file ≡ text_in (codes "file") j →
      Some hash ≡ text_in (codes "hash") j → Some ordinal ≡ number_in (codes "ordinal") j →
      Some rule ≡ text_in (codes "rule") j →
      Some (record { file = file; rule = rule; hash = hash; ordinal = ordinal }) ≡ entry_in j
  unfolding entry_in
  all_members file hash ordinal rule f h o r = rw (sym f, sym h, sym o, sym r) refl

entries_back : (es : List Entry) → AllFit es → entries_from (entry_items es) ≡ Some es
entries_back [] fits = refl
entries_back (e ∷ es) fits = rw (entry_back e fits.0, entries_back es fits.1) refl

value_back : (es : List Entry) → AllFit es → if_json (Some (baseline_json es)) ≡ Ok es
value_back es fits = rw (entries_back es fits) refl

pub reads_back : (es : List Entry) (text : List ℕ) → text ≡ baseline_text es → AllFit es → baseline_in text ≡ Ok es
reads_back es text e fits =
    ap baseline_in e ∙ ap (λ t. if_json (document t)) (without_feed-text es) ∙ ap if_json (document-body es fits)
    ∙ value_back es fits
