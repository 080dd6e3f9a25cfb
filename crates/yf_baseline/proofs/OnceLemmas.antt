-- Each entry of the findings of a file occurs once.
use Rattle.std.proofs.Common.{◌≡◌, ℕ, ◌+◌, ◌^◌, ◌<◌, ◌≤◌, Bool, true, false, List, [], ◌∷◌, ◌++◌, length, map}
use Rattle.std.proofs.Common.{Some, option_and_then, refl, sym, ap, ◌∙◌, arith, length-append}
use Rattle.std.specs.Prelude.{bytes_eq, ⊤}
use Rattle.std.proofs.lemmas.Bool.{or_from}
use Rattle.std.proofs.lemmas.Cmp.{nat_list_eq_equiv}
use Rattle.std.proofs.lemmas.List.{map_push}
use Rattle.std.proofs.lemmas.List.Sums.{count_by-le-length}
use Rattle.std.proofs.lemmas.Slice.Eq.{bytes_eq-Decides}
use Rattle.json.specs.Json.{document}
use Rattle.json.proofs.Printed.Decimals.{IsNumber-decimal}
use Rattle.json.proofs.Printed.Trees.{document-print}
use Rattle.yf_baseline.specs.Baselines.{entry_in, entry_json, entry_line}
use Rattle.yf_baseline.specs.Entries.{Kept, entries_after, entry_at, kept, mark}
use Rattle.yf_baseline.specs.Laws.{EntriesComeOnce, repeats_after}
use Rattle.yf_baseline.specs.SeenTexts.{is_among, occurrences}
use Rattle.yf_baseline.specs.declared.entry.Entry.{Entry}
use Rattle.yf_baseline.proofs.CountLemmas.{occurrences-push}
use Rattle.yf_baseline.proofs.ReadLemmas.{entry_back}

-- ---- a line says its entry

line_back : (e : Entry) → e.ordinal < 2 ^ 64 → option_and_then entry_in (document (entry_line e)) ≡ Some e
unfolding entry_line entry_json
line_back e small =
    ap (option_and_then entry_in)
    (document-print (entry_json e) (tt, (tt, (IsNumber-decimal e.ordinal small, (tt, tt)))) (omega arith))
    ∙ entry_back e small

pub same_entry : (a b : Entry) → a.ordinal < 2 ^ 64 → b.ordinal < 2 ^ 64 → entry_line a ≡ entry_line b → a ≡ b
same_entry a b small fits same =
    let some : Some a ≡ Some b =
    sym (line_back a small) ∙ ap (λ l. option_and_then entry_in (document l)) same ∙ line_back b fits in
    cc

-- ---- ordinals

abbrev mark_in : Entry → List ℕ
mark_in e = mark (kept e.rule e.hash)

-- each entry is one of the marks that were seen
abbrev Below : List (List ℕ) → List Entry → Type 0
Below seen [] = ⊤
Below seen (e ∷ es) = (e.ordinal < occurrences (mark_in e) seen) × Below seen es

below_more : (seen : List (List ℕ)) (text : List ℕ) (es : List Entry) → Below seen es → Below (seen ++ text ∷ []) es
below_more seen text [] h = tt
below_more seen text (e ∷ es) h =
    (omega (arith, h.0, occurrences-push (mark_in e) text seen), below_more seen text es h.1)

below_push : (seen : List (List ℕ)) (es : List Entry) (e : Entry) → Below seen es →
    e.ordinal < occurrences (mark_in e) seen → Below seen (es ++ e ∷ [])
below_push seen [] e h here = (here, tt)
below_push seen (x ∷ es) e h here = (h.0, below_push seen es e h.1 here)

seen_once_more : (text : List ℕ) (seen : List (List ℕ)) → occurrences text seen < occurrences text (seen ++ text ∷ [])
seen_once_more text seen =
    let more : occurrences text (seen ++ text ∷ []) ≡ occurrences text seen + 1 =
    rw (nat_list_eq_equiv.refl text) at (occurrences-push text text seen) in
    omega arith

few : (text : List ℕ) (seen : List (List ℕ)) → occurrences text seen ≤ length seen
few text seen = count_by-le-length (λ other. bytes_eq text other) seen

-- an entry is new if its ordinal is the number of marks like its own
absent : (seen : List (List ℕ)) (earlier : List Entry) (e : Entry) → length seen < 2 ^ 64 → Below seen earlier →
    e.ordinal ≡ occurrences (mark_in e) seen → is_among (map (λ x. entry_line x) earlier) (entry_line e) ≡ false
absent seen [] e small h here = refl
absent seen (x ∷ earlier) e small h here =
    or_from (bytes_eq (entry_line e) (entry_line x)) _ (cases (bytes_eq (entry_line e) (entry_line x)) refl)
    (absent seen earlier e small h.1 here)
  where
    cases : (b : Bool) → bytes_eq (entry_line e) (entry_line x) ≡ b → bytes_eq (entry_line e) (entry_line x) ≡ false
    cases true holds =
        let same : e ≡ x = same_entry e x (omega (arith, here, few (mark_in e) seen))
        (omega (arith, h.0, few (mark_in x) seen)) ((bytes_eq-Decides (entry_line e) (entry_line x)).0 holds) in
        let equal : e.ordinal ≡ x.ordinal = ap (λ y. y.ordinal) same in
        let marks : occurrences (mark_in e) seen ≡ occurrences (mark_in x) seen =
        ap (λ y. occurrences (mark_in y) seen) same in
        absurd (omega (arith, h.0, here, equal, marks))
    cases false fails = fails

once : (file : List ℕ) (seen : List (List ℕ)) (earlier : List Entry) (ks : List Kept) → Below seen earlier →
    length seen + length ks < 2 ^ 64 →
    repeats_after (map (λ x. entry_line x) earlier) (map (λ x. entry_line x) (entries_after file seen ks)) ≡ false
once file seen earlier [] h small = refl
once file seen earlier (k ∷ ks) h small =
    let e : Entry = entry_at file k (occurrences (mark k) seen) in
    let more = seen ++ mark k ∷ [] in
    let new = absent seen earlier e (omega arith) h refl in
    let below = below_push more earlier e (below_more seen (mark k) earlier h) (seen_once_more (mark k) seen) in
    let rest = once file more (earlier ++ e ∷ []) ks below (omega (arith, length-append seen (mark k ∷ []))) in
    let lines = map_push (λ x. entry_line x) earlier e in
    rw new (ap (λ l. repeats_after l (map (λ x. entry_line x) (entries_after file more ks))) (sym lines) ∙ rest)

pub entries_come_once : EntriesComeOnce
entries_come_once file ks small = once file [] [] ks tt (omega arith)
