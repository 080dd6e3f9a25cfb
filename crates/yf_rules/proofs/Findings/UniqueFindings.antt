-- A text has one list of findings (`FindingsAreOne`).
use Rattle.std.proofs.Common.{◌≡◌, ℕ, Bool, List, [], ◌∷◌, ◌++◌, map, length, refl, sym, subst, ap, ◌∙◌, arith, length-append}
use Rattle.std.specs.Borrow.{Bor}
use Rattle.std.specs.Cmp.{IsTotalOrder}
use Rattle.std.specs.List.{Contains}
use Rattle.std.specs.Ordering.{is_lt}
use Rattle.std.specs.Prelude.{◌&&◌, not}
use Rattle.std.proofs.lemmas.Cmp.{nat_cmp_total, on_total, then_total}
use Rattle.std.proofs.lemmas.List.{map-append}
use Rattle.yf_lines.specs.Lines.{AreLines, Table}
use Rattle.yf_lines.specs.declared.line.Line.{Line}
use Rattle.yf_lines.specs.declared.place.Position.{Position}
use Rattle.yf_lines.proofs.LineLemmas.{lines_unique}
use Rattle.yf_events.specs.declared.lists.Lists.{Lists}
use Rattle.yf_forms.specs.NormalForms.Textual.{IsTextual}
use Rattle.yf_forms.specs.declared.style.Style.{Style}
use Rattle.yf_laws.specs.Laws.{ReadingsAreOfTexts}
use Rattle.yf_rule_sets.specs.RuleOf.{definition_of}
use Rattle.yf_rule_sets.specs.RuleSets.Exact.{Exactly}
use Rattle.yf_rule_sets.specs.RuleSets.Places.{PlacesOf}
use Rattle.yf_rule_sets.specs.RuleSets.Places.FoundAt.{found_at}
use Rattle.yf_rule_sets.specs.Sets.{WithoutFinalBreak}
use Rattle.yf_rule_sets.specs.Sets.WithoutFinalBreak.{has_break, no_break, of_empty_text}
use Rattle.yf_rule_sets.specs.declared.rules.StyleRule.{StyleRule}
use Rattle.yf_rule_sets.specs.declared.rules.StyleRule.TheVariants.{TrailingBlanks, Indentation, Quoting, DocumentStart, FinalBreak, LineBreaks, ByteOrderMark, BlankLines, FlowLayout, CommentSpace, LineLength, RepeatedKeys, KeyMark, HiddenCharacter}
use Rattle.yf_rule_sets.proofs.Findings.PlacesLemmas.{place_total}
use Rattle.yf_rules.specs.AllRules.{FoundWithout, rules_without}
use Rattle.yf_rules.specs.Check.{InOrder, RuleFindings, SortedFrom, finding_at, key_cmp, sort_key}
use Rattle.yf_rules.specs.Check.CheckAnswer.{checked}
use Rattle.yf_rules.specs.Check.FindingsOf.{at_places}
use Rattle.yf_rules.specs.Check.InOrder.{no_rules, one_more}
use Rattle.yf_rules.specs.UniqueFindings.{FindingsAreOne, finding_values}
use Rattle.yf_rules.specs.declared.finding.Finding.{Finding}
use Rattle.yf_rules.proofs.Findings.SortedLists.{filter_values, stable_sort_one, strictly_sorted_one}

-- Offsets at fault.

exact_same : {P : ℕ → ℕ → Type 0} {os qs : List ℕ} → Exactly P os → Exactly P qs → (n : ℕ) → Contains os n → Contains qs n
exact_same a b n c = let w = a.only n c in b.all w.0 n w.1

no_break_same : (t os qs : List ℕ) → WithoutFinalBreak t os → WithoutFinalBreak t qs → os ≡ qs
no_break_same t _ _ (of_empty_text e) (of_empty_text f) = refl
no_break_same t _ _ (of_empty_text e) (has_break b) = refl
no_break_same t _ _ (of_empty_text e) (no_break n none) = absurd (n e)
no_break_same t _ _ (has_break a) (of_empty_text f) = refl
no_break_same t _ _ (has_break a) (has_break b) = refl
no_break_same t _ _ (has_break {i = i} a) (no_break n none) = absurd (none i a)
no_break_same t _ _ (no_break n none) (of_empty_text f) = absurd (n f)
no_break_same t _ _ (no_break n none) (has_break {i = i} b) = absurd (none i b)
no_break_same t _ _ (no_break n none) (no_break m nowhere) = refl

listed_same : {xs : List ℕ} (os qs : List ℕ) → os ≡ xs → qs ≡ xs → (n : ℕ) → Contains os n → Contains qs n
listed_same os qs a b n c = subst (λ (z : List ℕ). Contains z n) (a ∙ sym b) c

module _ (src : Table) (reading : Lists) (style : Style) (w : IsTextual reading) where
  -- two lists of offsets found by a rule have the same members
  same_faults : (rule : StyleRule) (os qs : List ℕ) → (definition_of rule).faults src reading style os
      → (definition_of rule).faults src reading style qs → (n : ℕ) → Contains os n → Contains qs n
  same_faults TrailingBlanks os qs a b = exact_same a b
  same_faults Indentation os qs a b = exact_same (a w.trees w.of_reading) (b w.trees w.of_reading)
  same_faults Quoting os qs a b = exact_same a b
  same_faults DocumentStart os qs a b = exact_same a b
  same_faults FinalBreak os qs a b = λ n c. subst (λ (z : List ℕ). Contains z n) (no_break_same src.text os qs a b) c
  same_faults LineBreaks os qs a b = listed_same os qs a b
  same_faults ByteOrderMark os qs a b = exact_same a b
  same_faults BlankLines os qs a b = exact_same a b
  same_faults FlowLayout os qs a b = exact_same (a w.trees w.of_reading w.comments) (b w.trees w.of_reading w.comments)
  same_faults CommentSpace os qs a b = exact_same a b
  same_faults LineLength os qs a b = exact_same a b
  same_faults RepeatedKeys os qs a b = exact_same (a w.trees w.of_reading) (b w.trees w.of_reading)
  same_faults KeyMark os qs a b = exact_same (a w) (b w)
  same_faults HiddenCharacter os qs a b = exact_same a b

-- Positions.

places_in : {t os qs : List ℕ} {ps rs : List Position} → PlacesOf t os ps → PlacesOf t qs rs → ((n : ℕ) → Contains os n → Contains qs n)
    → (p : Position) → Contains ps p → Contains rs p
places_in a b f p c =
    let w = a.only p c in b.all p (record { offset = w.offset; among = f w.offset w.among; boundary = w.boundary; place = w.place })

-- Findings.

values_at : (n m : ℕ) (id name : Bor (List ℕ)) (f g : Bool) (ps : List Position)
    → n ≡ m → id.now ≡ name.now → f ≡ g → map finding_values (map (finding_at n id f) ps) ≡ map finding_values (map (finding_at m name g) ps)
values_at n m id name f g [] en ei ef = refl
values_at n m id name f g (p ∷ ps) en ei ef =
    let rest : map finding_values (map (finding_at n id f) ps) ≡ map finding_values (map (finding_at m name g) ps) = values_at n m id name f g ps en ei ef in
    let head : finding_values (finding_at n id f p) ≡ finding_values (finding_at m name g p) =
    ap (λ (k : ℕ). (p, k, id.now, f)) en ∙ (ap (λ (k : List ℕ). (p, m, k, f)) ei ∙ ap (λ (k : Bool). (p, m, name.now, k)) ef) in
    cc

module _ (src : Table) (reading : Lists) (style : Style) (w : IsTextual reading) where
  -- the findings of one rule
  rule_values : (rule : StyleRule) {x y : List Finding} → RuleFindings (definition_of rule) src reading style x
      → RuleFindings (definition_of rule) src reading style y → map finding_values y ≡ map finding_values x
  rule_values rule (at_places {places = ps} n id f en ei ef (found_at {os = os} a pa) ua ex) (at_places {places = rs} m name g em ej eg (found_at {os = qs} b pb) ub ey) =
      let same : rs ≡ ps = strictly_sorted_one place_total ps rs ua ub (places_in pa pb (same_faults src reading style w rule os qs a b))
      (places_in pb pa (same_faults src reading style w rule qs os b a)) in
      ap (map finding_values) (ey ∙ ap (map (finding_at m name g)) same)
      ∙ (values_at m n name id g f ps (em ∙ sym en) (ej ∙ sym ei) (eg ∙ sym ef) ∙ sym (ap (map finding_values) ex))

-- For lists that begin and end with one element each.

no_last : {A : Type 0} (xs : List A) (x : A) → [] ≡ xs ++ x ∷ [] → ⊥
no_last xs x e = let n = simp length-append at (ap length e) in omega (arith, n)

same_ends : {A : Type 0} (xs ys : List A) (x y : A) → xs ++ x ∷ [] ≡ ys ++ y ∷ [] → (xs ≡ ys) × (x ≡ y)
same_ends [] [] x y e = (refl, cc)
same_ends [] (b ∷ ys) x y e =
    let w : (x ∷ []) ≡ (b ∷ (ys ++ y ∷ [])) = e in
    let rest : [] ≡ ys ++ y ∷ [] = cc in absurd (no_last ys y rest)
same_ends (a ∷ xs) [] x y e =
    let w : (a ∷ (xs ++ x ∷ [])) ≡ (y ∷ []) = e in
    let rest : [] ≡ xs ++ x ∷ [] = cc in absurd (no_last xs x rest)
same_ends (a ∷ xs) (b ∷ ys) x y e =
    let w : (a ∷ (xs ++ x ∷ [])) ≡ (b ∷ (ys ++ y ∷ [])) = e in
    let tails : xs ++ x ∷ [] ≡ ys ++ y ∷ [] = cc in
    let ends = same_ends xs ys x y tails in
    let same : xs ≡ ys = ends.0 in
    ((cc), ends.1)

-- the findings of several rules, one rule after the other, if those of each have equal values
module _ {B : Type 0} (R : B → List Finding → Type 0)
    (single : (b : B) (x y : List Finding) → R b x → R b y → map finding_values y ≡ map finding_values x) where
  order_values : (bs cs : List B) (x y : List Finding) → bs ≡ cs → InOrder R bs x → InOrder R cs y
      → map finding_values y ≡ map finding_values x
  order_values bs cs _ _ e no_rules no_rules = refl
  order_values bs cs _ _ e no_rules (one_more {bs = ds} {b = d} front last) = absurd (no_last ds d e)
  order_values bs cs _ _ e (one_more {bs = ms} {b = m} front last) no_rules = absurd (no_last ms m (sym e))
  order_values bs cs _ _ e (one_more {bs = ms} {b = m} {x = x} {y = y} front last) (one_more {bs = ds} {b = d} {x = u} {y = v} other_front other) =
      let ends = same_ends ms ds m d e in
      let first : map finding_values u ≡ map finding_values x = order_values ms ds x u ends.0 front other_front in
      let second : map finding_values v ≡ map finding_values y = single d y v (subst (λ (b : B). R b y) ends.1 last) other in
      map-append finding_values u v ∙ (ap (λ z. z ++ map finding_values v) first ∙ (ap (λ z. map finding_values x ++ z) second ∙ sym (map-append finding_values x y)))

-- and the findings of these rules, in order
key_total : IsTotalOrder key_cmp
key_total = then_total (then_total (on_total (λ (k : ℕ × ℕ × ℕ). k.0) nat_cmp_total) (on_total (λ (k : ℕ × ℕ × ℕ). k.1) nat_cmp_total)) (on_total (λ (k : ℕ × ℕ × ℕ). k.2) nat_cmp_total)

same_key : (f g : Finding) → finding_values g ≡ finding_values f → sort_key g ≡ sort_key f
same_key f g e = ap (λ (v : Position × ℕ × List ℕ × Bool). (v.0.line, v.0.column, v.1)) e

sorted_values : (all found x y : List Finding) → map finding_values found ≡ map finding_values all
    → SortedFrom all x → SortedFrom found y → map finding_values y ≡ map finding_values x
sorted_values all found x y e s t =
    stable_sort_one finding_values sort_key key_total same_key x y s.order t.order
    (λ f. ap (map finding_values) (t.stable f)
    ∙ (filter_values finding_values (λ g. not (is_lt (key_cmp (sort_key f) (sort_key g))) && not (is_lt (key_cmp (sort_key g) (sort_key f))))
    (λ g h w. ap (λ k. not (is_lt (key_cmp (sort_key f) k)) && not (is_lt (key_cmp k (sort_key f)))) (same_key g h w)) all found e
    ∙ sym (ap (map finding_values) (s.stable f))))

-- A text.

check_values : (src : Table) (reading : Lists) (style : Style) (without : List (List ℕ)) {x y : List Finding}
    → IsTextual reading → FoundWithout without style src reading x → FoundWithout without style src reading y
    → map finding_values y ≡ map finding_values x
check_values src reading style without {x} {y} w (checked {all = all} order sorted) (checked {all = found} other other_sorted) =
    sorted_values all found x y
    (order_values (λ rule found. RuleFindings (definition_of rule) src reading style found) (λ rule u v a b. rule_values src reading style w rule a b)
    (rules_without without) (rules_without without) all found refl order other) sorted other_sorted

same_table : (a b : Table) → a.text ≡ b.text → a.lines ≡ b.lines → a ≡ b
same_table a b e f = ap (λ (t : List ℕ). table_of t a.lines) e ∙ ap (table_of b.text) f where
  table_of : List ℕ → List Line → Table
  table_of text lines = record { text = text; lines = lines }

pub findings_are_one : ReadingsAreOfTexts → FindingsAreOne
findings_are_one textual t style without x y utf8 a b =
    let text : b.src.text ≡ a.src.text = b.of_text ∙ sym a.of_text in
    let lines : b.src.lines ≡ a.src.lines = lines_unique a.src.text b.src.lines a.src.lines (subst (λ (u : List ℕ). AreLines u b.src.lines) text b.lines) a.lines in
    let table : b.src ≡ a.src = same_table b.src a.src text lines in
    let reading : b.reading ≡ a.reading = a.reads.only b.reading b.reads.reads in
    check_values a.src a.reading style without (textual t a.reading utf8 a.reads.reads).textual a.checked
    (subst (λ (src : Table). FoundWithout without style src a.reading y) table
    (subst (λ (r : Lists). FoundWithout without style b.src r y) reading b.checked))
