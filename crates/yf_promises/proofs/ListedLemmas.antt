-- Each rule finds one set of offsets in a text: some list has them, and all lists of them have equal members.
use Rattle.std.proofs.Common.{◌≡◌, ℕ, List, [], refl, sym, ap, ◌∙◌, subst}
use Rattle.std.specs.List.{Contains}
use Rattle.yf_lines.specs.Lines.{AreLines, Table}
use Rattle.yf_lines.specs.declared.line.Line.{Line}
use Rattle.yf_lines.proofs.LineLemmas.{lines_unique}
use Rattle.yf_events.specs.Tree.{DocumentTree, TreesOf}
use Rattle.yf_events.specs.declared.lists.Lists.{Lists}
use Rattle.yf_events.proofs.TreeLemmas.{trees_unique}
use Rattle.yf_forms.specs.NormalForms.Textual.{IsTextual}
use Rattle.yf_forms.specs.declared.style.Style.{Style}
use Rattle.yf_rule_sets.specs.RuleOf.{definition_of}
use Rattle.yf_rule_sets.specs.RuleSets.Exact.{Exactly}
use Rattle.yf_rule_sets.specs.RuleSets.Indents.{IndentFault}
use Rattle.yf_rule_sets.specs.RuleSets.Layouts.{NeedlessMark}
use Rattle.yf_rule_sets.specs.RuleSets.Nodes.{RepeatedKey}
use Rattle.yf_rule_sets.specs.Sets.{WithoutFinalBreak, first_return}
use Rattle.yf_rule_sets.specs.Sets.WithoutFinalBreak.{has_break, no_break, of_empty_text}
use Rattle.yf_rule_sets.specs.declared.rules.StyleRule.{StyleRule}
use Rattle.yf_rule_sets.specs.declared.rules.StyleRule.TheVariants.{TrailingBlanks, Indentation, Quoting, DocumentStart, FinalBreak, LineBreaks, ByteOrderMark, BlankLines, FlowLayout, CommentSpace, LineLength, RepeatedKeys, KeyMark, HiddenCharacter}
use Rattle.yf_promises.proofs.Candidates.{all_out, blank_lines, comments, ends_listed, flows, hidden, indents, key_marks, keys, long_lines, not_without, order_marks, scalars, starts, trailing_blanks}

module _ (src : Table) (r : Lists) (style : Style) (w : IsTextual r) where
  abbrev pub Faults : StyleRule → List ℕ → Type 0
  Faults rule offsets = (definition_of rule).faults src r style offsets

  for_trees : (F : List DocumentTree → ℕ → ℕ → Type 0) (offsets : List ℕ) → Exactly (F w.trees) offsets
      → (trees : List DocumentTree) → TreesOf r trees → Exactly (F trees) offsets
  for_trees F offsets e trees q = subst (λ z. Exactly (F z) offsets) (trees_unique r w.trees trees w.of_reading q) e

  indent_faults : (offsets : List ℕ) → Exactly (IndentFault src style w.trees) offsets → Faults Indentation offsets
  indent_faults offsets e = for_trees (λ z. IndentFault src style z) offsets e

  key_faults : (offsets : List ℕ) → Exactly (RepeatedKey r w.trees) offsets → Faults RepeatedKeys offsets
  key_faults offsets e = for_trees (λ z. RepeatedKey r z) offsets e

  mark_faults : (offsets : List ℕ) → Exactly (NeedlessMark src r style w.trees) offsets → Faults KeyMark offsets
  mark_faults offsets e =
      λ (v : IsTextual r). for_trees (λ z. NeedlessMark src r style z) offsets e v.trees v.of_reading

  pub has_list : (rule : StyleRule) → ((offsets : List ℕ) → Faults rule offsets → ⊥) → ⊥
  has_list TrailingBlanks none = not_without _ (trailing_blanks src r style) none
  has_list Indentation none =
      not_without _ (indents src r style w.trees w.of_reading) (λ offsets e. none offsets (indent_faults offsets e))
  has_list Quoting none = not_without _ (scalars src r style) none
  has_list DocumentStart none = not_without _ (starts src r style) none
  has_list FinalBreak none = let e = ends_listed src.text in none e.0 e.1
  has_list LineBreaks none = none (first_return src.text src.lines) refl
  has_list ByteOrderMark none = not_without _ (order_marks src r style) none
  has_list BlankLines none = not_without _ (blank_lines src r style) none
  has_list FlowLayout none = not_without _ (flows src r style) (λ offsets e. none offsets (λ trees q c. e))
  has_list CommentSpace none = not_without _ (comments src r style) none
  has_list LineLength none = not_without _ (long_lines src r style) none
  has_list RepeatedKeys none =
      not_without _ (keys src r style w.trees w.of_reading) (λ offsets e. none offsets (key_faults offsets e))
  has_list KeyMark none =
      not_without _ (key_marks src r style w.trees w.of_reading) (λ offsets e. none offsets (mark_faults offsets e))
  has_list HiddenCharacter none = not_without _ (hidden src r style) none

  -- if all lists are empty, the empty one has the offsets
  pub no_faults : (rule : StyleRule) → ((offsets : List ℕ) → Faults rule offsets → offsets ≡ []) → Faults rule []
  no_faults TrailingBlanks law = all_out _ (trailing_blanks src r style) law
  no_faults Indentation law =
      indent_faults []
      (all_out _ (indents src r style w.trees w.of_reading) (λ offsets e. law offsets (indent_faults offsets e)))
  no_faults Quoting law = all_out _ (scalars src r style) law
  no_faults DocumentStart law = all_out _ (starts src r style) law
  no_faults FinalBreak law = let e = ends_listed src.text in subst (λ z. WithoutFinalBreak src.text z) (law e.0 e.1) e.1
  no_faults LineBreaks law = sym (law (first_return src.text src.lines) refl)
  no_faults ByteOrderMark law = all_out _ (order_marks src r style) law
  no_faults BlankLines law = all_out _ (blank_lines src r style) law
  no_faults FlowLayout law =
      let e = all_out _ (flows src r style) (λ offsets e. law offsets (λ trees q c. e)) in λ trees q c. e
  no_faults CommentSpace law = all_out _ (comments src r style) law
  no_faults LineLength law = all_out _ (long_lines src r style) law
  no_faults RepeatedKeys law =
      key_faults []
      (all_out _ (keys src r style w.trees w.of_reading) (λ offsets e. law offsets (key_faults offsets e)))
  no_faults KeyMark law =
      mark_faults []
      (all_out _ (key_marks src r style w.trees w.of_reading) (λ offsets e. law offsets (mark_faults offsets e)))
  no_faults HiddenCharacter law = all_out _ (hidden src r style) law

  -- two lists of a rule's offsets have equal members
  exact_same : {P : ℕ → ℕ → Type 0} {xs ys : List ℕ} → Exactly P xs → Exactly P ys → (i : ℕ) → Contains xs i
      → Contains ys i
  exact_same a b i c = let k = a.only i c in b.all k.0 i k.1

  ends_same : (t xs ys : List ℕ) → WithoutFinalBreak t xs → WithoutFinalBreak t ys → xs ≡ ys
  ends_same t _ _ (of_empty_text e) (of_empty_text f) = refl
  ends_same t _ _ (of_empty_text e) (has_break b) = refl
  ends_same t _ _ (of_empty_text e) (no_break n none) = absurd (n e)
  ends_same t _ _ (has_break a) (of_empty_text f) = refl
  ends_same t _ _ (has_break a) (has_break b) = refl
  ends_same t _ _ (has_break {i = i} a) (no_break n none) = absurd (none i a)
  ends_same t _ _ (no_break n none) (of_empty_text f) = absurd (n f)
  ends_same t _ _ (no_break n none) (has_break {i = i} b) = absurd (none i b)
  ends_same t _ _ (no_break n none) (no_break m nowhere) = refl

  pub same_offsets : (rule : StyleRule) (xs ys : List ℕ) → Faults rule xs → Faults rule ys → (i : ℕ) → Contains xs i
      → Contains ys i
  same_offsets TrailingBlanks xs ys a b = exact_same a b
  same_offsets Indentation xs ys a b = exact_same (a w.trees w.of_reading) (b w.trees w.of_reading)
  same_offsets Quoting xs ys a b = exact_same a b
  same_offsets DocumentStart xs ys a b = exact_same a b
  same_offsets FinalBreak xs ys a b = λ i c. subst (λ (z : List ℕ). Contains z i) (ends_same src.text xs ys a b) c
  same_offsets LineBreaks xs ys a b = λ i c. subst (λ (z : List ℕ). Contains z i) (a ∙ sym b) c
  same_offsets ByteOrderMark xs ys a b = exact_same a b
  same_offsets BlankLines xs ys a b = exact_same a b
  same_offsets FlowLayout xs ys a b = exact_same (a w.trees w.of_reading w.comments) (b w.trees w.of_reading w.comments)
  same_offsets CommentSpace xs ys a b = exact_same a b
  same_offsets LineLength xs ys a b = exact_same a b
  same_offsets RepeatedKeys xs ys a b = exact_same (a w.trees w.of_reading) (b w.trees w.of_reading)
  same_offsets KeyMark xs ys a b = exact_same (a w) (b w)
  same_offsets HiddenCharacter xs ys a b = exact_same a b

-- the only table of a text's lines
pub one_table : (t : List ℕ) (a b : Table) → a.text ≡ t → b.text ≡ t → AreLines t a.lines → AreLines t b.lines → a ≡ b
one_table t a b e f l m =
    ap (λ (z : List ℕ). table_of z a.lines) (e ∙ sym f)
    ∙ ap (table_of b.text) (lines_unique t a.lines b.lines l m) where
      table_of : List ℕ → List Line → Table
      table_of text lines = record { text = text; lines = lines }
