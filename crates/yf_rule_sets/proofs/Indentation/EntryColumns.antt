-- The entries of a node: the column that the pass of the rule indentation keeps.
use Rattle.std.proofs.Common.{◌≡◌, ◌≢◌, ℕ, ◌+◌, ◌-◌, ◌<◌, Bool, true, false, not, List, ◌++◌, Option, Some, None, drop, get_or, length, refl, sym, subst, ap, ◌∙◌, ⊎_elim, arith, true≢false}
use Rattle.std.specs.Prelude.{◌==◌, if◌then◌else◌}
use Rattle.std.specs.Str.{IsCharBoundary}
use Rattle.std.proofs.lemmas.Bool.{cases_Bool}
use Rattle.std.proofs.lemmas.Bool.Decides.{nat_tests}
use Rattle.std.proofs.lemmas.List.{length-map}
use Rattle.std.proofs.lemmas.Option.{same_Some, slice_get_within}
use Rattle.yf_forms.specs.Nodes.SingleNodes.{NodeAt}
use Rattle.yf_forms.proofs.Decide.ValueLemmas.{event_of}
use Rattle.yf_events.specs.Event.{EventInText}
use Rattle.yf_events.specs.Reading.{events_of}
use Rattle.yf_events.specs.Tree.{Node, scalar, alias, sequence, mapping, no_items, item, no_pairs, pair, flat, is_block_collection, standing}
use Rattle.yf_events.specs.declared.event.Entry.{Entry}
use Rattle.yf_events.specs.declared.lists.Lists.{Lists}
use Rattle.yf_lines.specs.Lines.{PlaceOf, Table}
use Rattle.yf_lines.proofs.PlaceLemmas.{place_unique}
use Rattle.yf_rule_sets.specs.RuleSets.Columns.{ColumnsTo, IsColumn}
use Rattle.yf_rule_sets.specs.Passes.Entries.{all_entries, column_at, entries_from, first_entry, if_any, is_boundary, is_unmarked, start_at, unmarked_at}
use Rattle.yf_rule_sets.specs.RuleSets.Indents.{EntriesAt, WithoutMark, at_first, first_in, no_mark}
use Rattle.yf_rule_sets.specs.Passes.NodeColumns.{is_other}
use Rattle.yf_rule_sets.proofs.Indentation.EntryLemmas.{boundary_true, column_there, mark_test, true_boundary}
use Rattle.yf_rule_sets.proofs.Texts.FlowLemmas.{event_there}
use Rattle.yf_rule_sets.proofs.Texts.NodeLemmas.{events_after}
use Rattle.yf_chars.proofs.Tests.{none_some}

-- the start of a node's entries

abbrev entry_in : Option Node → Option Entry
entry_in None = None
entry_in (Some x) = (standing x).entry

abbrev start_in : List ℕ → Node → Option ℕ
start_in t y = if is_block_collection y then start_at t (entry_in (first_in y)) else None

first_of : (x : Node) (after : List EventInText) → first_entry (flat x ++ after) ≡ (standing x).entry
first_of (scalar at props style text lines) after = refl
first_of (alias at name) after = refl
first_of (sequence at flow props items) after = refl
first_of (mapping at flow props pairs) after = refl

first_within : (x : Node) (xs ys zs : List EventInText) → first_entry (((flat x ++ xs) ++ ys) ++ zs) ≡ (standing x).entry
first_within (scalar at props style text lines) xs ys zs = refl
first_within (alias at name) xs ys zs = refl
first_within (sequence at flow props items) xs ys zs = refl
first_within (mapping at flow props pairs) xs ys zs = refl

start_of : (t : List ℕ) (y : Node) (after : List EventInText) → entries_from t (flat y ++ after) ≡ start_in t y
start_of t (scalar at props style text lines) after = refl
start_of t (alias at name) after = refl
start_of t (sequence at true props no_items) after = refl
start_of t (sequence at false props no_items) after = refl
start_of t (sequence at flow props (item x xs)) after = ap (λ e. if not flow then start_at t e else None) (first_within x _ _ after)
start_of t (mapping at true props no_pairs) after = refl
start_of t (mapping at false props no_pairs) after = refl
start_of t (mapping at flow props (pair k v ps)) after = ap (λ e. if not flow then start_at t e else None) (first_within k _ _ after)

starts_there : (t : List ℕ) (es : List EventInText) (i : ℕ) (y : Node) → NodeAt es i y → entries_from t (drop i es) ≡ start_in t y
starts_there t es i y n = ap (entries_from t) (events_after n) ∙ start_of t y n.after

-- the start of a node's entries in the pass
record Begins (src : Table) (y : Node) (start : ℕ) : Type 0 where
  first : Node
  entry : Entry
  is_block : is_block_collection y ≡ true
  is_first : first_in y ≡ Some first
  begins : (standing first).entry ≡ Some entry
  start_is : entry.start ≡ start
  boundary : IsCharBoundary src.text start

begins_at : (src : Table) (y : Node) (start : ℕ) → start_in src.text y ≡ Some start → Begins src y start
begins_at src y start e = by (is_block_collection y) (first_in y) (entry_in (first_in y)) refl refl refl e where
  at_entry : (f : Node) (entry : Entry) (b : Bool) → is_block_collection y ≡ true → first_in y ≡ Some f → (standing f).entry ≡ Some entry → is_boundary src.text entry.start ≡ b
      → (if b then Some entry.start else None) ≡ Some start → Begins src y start
  at_entry f entry true h g q b e = record {
    first = f;
    entry = entry;
    is_block = h;
    is_first = g;
    begins = q;
    start_is = same_Some _ _ e;
    boundary = subst (IsCharBoundary src.text) (same_Some _ _ e) (true_boundary src.text entry.start b);
  }
  at_entry f entry false h g q b e = absurd (none_some e)

  by : (b : Bool) (f : Option Node) (n : Option Entry) → is_block_collection y ≡ b → first_in y ≡ f → entry_in f ≡ n → (if b then start_at src.text n else None) ≡ Some start → Begins src y start
  by false f n h g q e = absurd (none_some e)
  by true f None h g q e = absurd (none_some e)
  by true None (Some entry) h g q e = absurd (none_some q)
  by true (Some f) (Some entry) h g q e = at_entry f entry (is_boundary src.text entry.start) h g q refl e

entries_begin : (src : Table) (y : Node) (start column : ℕ) → start_in src.text y ≡ Some start → IsColumn src.text start column → EntriesAt src y column start
entries_begin src y start column e c =
    let b = begins_at src y start e in
    subst (EntriesAt src y column) b.start_is (at_first {line = c.line} b.is_block b.is_first b.begins (subst (IsCharBoundary src.text) (sym b.start_is) b.boundary)
    (subst (λ o. PlaceOf src.text o c.line (column + 1)) (sym b.start_is) c.place))

-- the other way
pub record Found (src : Table) (y : Node) (column start : ℕ) : Type 0 where
  pub is_block : is_block_collection y ≡ true
  pub starts : start_in src.text y ≡ Some start
  pub boundary : IsCharBoundary src.text start
  pub line : ℕ
  pub place : PlaceOf src.text start line (column + 1)

pub entries_found : {src : Table} {y : Node} {column start : ℕ} → EntriesAt src y column start → Found src y column start
entries_found {src} {y} (at_first {first} {entry} {line} h g e b p) = record {
  is_block = h;
  starts = ap (λ b. if b then start_at src.text (entry_in (first_in y)) else None) h ∙ ap (λ f. start_at src.text (entry_in f)) g ∙ ap (start_at src.text) e
      ∙ ap (λ b. if b then Some entry.start else None) (boundary_true src.text entry.start b);
  boundary = b;
  line = line;
  place = p;
}

-- at the index of a node

module _ (src : Table) (r : Lists) (columns : List ℕ) (is : ColumnsTo src.text (all_entries src.text r.events) columns (length (all_entries src.text r.events)))
    (i : ℕ) (y : Node) (n : NodeAt r.events i y) where
  inside : i < length r.events
  inside = let w = slice_get_within (events_of r) i (event_of y) (event_there n) in omega (arith, w, length-map r.events (λ e. e.event))

  its_column : (start : ℕ) → entries_from src.text (drop i r.events) ≡ Some start → IsCharBoundary src.text start
      → (column : ℕ) × (column_at src.text r.events columns i ≡ Some column) × IsColumn src.text start column
  its_column start e b =
      let k = get_or columns (length (all_entries src.text r.events) - length (all_entries src.text (drop i r.events))) 0 in
      (k, ap (λ o. if_any o k) e, column_there src.text r.events columns i start inside is e b)

  pub column_found : (column : ℕ) → column_at src.text r.events columns i ≡ Some column
      → (start : ℕ) × (entries_from src.text (drop i r.events) ≡ Some start) × EntriesAt src y column start
  column_found column e = by (entries_from src.text (drop i r.events)) refl where
    by : (o : Option ℕ) → entries_from src.text (drop i r.events) ≡ o → (start : ℕ) × (entries_from src.text (drop i r.events) ≡ Some start) × EntriesAt src y column start
    by None q = absurd (none_some (sym (ap (λ o. if_any o (get_or columns (length (all_entries src.text r.events) - length (all_entries src.text (drop i r.events))) 0)) q) ∙ e))
    by (Some start) q =
        let s = sym (starts_there src.text r.events i y n) ∙ q in
        let c = its_column start q (begins_at src y start s).boundary in
        (start, q, entries_begin src y start column s (subst (IsColumn src.text start) (same_Some _ _ (sym c.1 ∙ e)) c.2))

  pub found_column : {column start : ℕ} → EntriesAt src y column start → (column_at src.text r.events columns i ≡ Some column) × (entries_from src.text (drop i r.events) ≡ Some start)
  found_column {column} {start} e =
      let f = entries_found e in
      let q = starts_there src.text r.events i y n ∙ f.starts in
      let c = its_column start q f.boundary in
      let w = (place_unique c.2.place f.place).1 in
      (c.1 ∙ ap (λ k. Some k) (let z : c.0 ≡ column = omega (arith, w) in z), q)

  pub unmarked_found : unmarked_at src.text r.events i ≡ is_unmarked src.text (standing y).entry
  unmarked_found = ap (λ es. is_unmarked src.text (first_entry es)) (events_after n) ∙ ap (is_unmarked src.text) (first_of y n.after)

-- a key without `?`

pub not_true : not true ≡ true → ⊥
not_true e = cc

pub unmarked_key : (src : Table) (k : Node) → is_unmarked src.text (standing k).entry ≡ true → WithoutMark src k
unmarked_key src k e = by (standing k).entry refl e where
  by : (o : Option Entry) → (standing k).entry ≡ o → is_unmarked src.text o ≡ true → WithoutMark src k
  by None q e = absurd (true≢false (sym e))
  by (Some entry) q e = no_mark q (λ h. not_true (ap not (sym (mark_test src.text entry.start true h)) ∙ e))

pub key_unmarked : {src : Table} {k : Node} → WithoutMark src k → is_unmarked src.text (standing k).entry ≡ true
key_unmarked {src} (no_mark {entry = entry} q n) = ap (is_unmarked src.text) q ∙ ap not (mark_test src.text entry.start false n)

-- another column

no_other : (a b : ℕ) → not (a == b) ≡ true → a ≢ b
no_other a b e = λ q. grind (arith, nat_tests)

pub other : (a b : ℕ) → a ≢ b → not (a == b) ≡ true
other a b n = ⊎_elim (λ (h : not (a == b) ≡ true). h) (λ (h : not (a == b) ≡ false). absurd (n (same a b h))) (cases_Bool (not (a == b))) where
  same : (a b : ℕ) → not (a == b) ≡ false → a ≡ b
  same a b e = grind (arith, nat_tests)

pub other_wanted : (column : ℕ) (w : Option ℕ) → is_other column w ≡ true → (wanted : ℕ) × (w ≡ Some wanted) × (column ≢ wanted)
other_wanted column None e = absurd (true≢false (sym e))
other_wanted column (Some wanted) e = (wanted, refl, no_other column wanted e)
