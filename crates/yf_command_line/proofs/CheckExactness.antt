-- The rows of `check` either make one task or are refused, and never both.
use Rattle.std.proofs.Common.{◌≡◌, ◌≢◌, ◌⊎◌, ◌∙◌, ◌<◌, ◌≤◌, Bool, true, false, List, [], ◌∷◌, map, length, Vec}
use Rattle.std.proofs.Common.{refl, sym, ap, inl, inr, arith}
use Rattle.std.proofs.lemmas.Bool.{false≢true}
use Rattle.std.specs.declared.alloc.Global.{Global}
use Rattle.clap.specs.Words.{Row, Text}
use Rattle.yf_line_ranges.specs.declared.range.LineRange.{LineRange}
use Rattle.yf_command_line.specs.Lines.{are_lines, lines_in}
use Rattle.yf_command_line.specs.Requests.{IsCheck, IsNoCheck, all_inputs, baseline_given, files_given, input_of, inputs_of}
use Rattle.yf_command_line.specs.Requests.{lines_given, names_given}
use Rattle.yf_command_line.specs.Requests.IsNoCheck.{no_rule, wrong_lines, several_checked, no_printing}
use Rattle.yf_command_line.specs.Without.{are_rules}
use Rattle.yf_command_line.specs.declared.command.Check.{Check}
use Rattle.yf_command_line.specs.declared.command.Input.{Input}
use Rattle.yf_command_line.specs.declared.command.Input.TheVariants.{Standard}
use Rattle.yf_command_line.specs.declared.command.InputList.{InputList}
use Rattle.yf_command_line.proofs.PrintingExactness.{printing_not_both, printing_once, printing_or_not}

-- The two are equal, except for the capacity of their vectors.
pub record SameCheck (a b : Check) : Type 0 where
  pub inputs : all_inputs a.inputs ≡ all_inputs b.inputs
  pub without : a.without.items ≡ b.without.items
  pub lines : a.lines.items ≡ b.lines.items
  pub baseline : a.baseline ≡ b.baseline
  pub printing : a.printing ≡ b.printing

pub check_once : (rules : List Text) (given : List Row) (a b : Check) → IsCheck rules given a → IsCheck rules given b
    → SameCheck a b
check_once rules given a b p q = record {
  inputs = sym p.inputs ∙ q.inputs;
  without = p.without ∙ sym q.without;
  lines = p.lines ∙ sym q.lines;
  baseline = p.baseline ∙ sym q.baseline;
  printing = printing_once given a.printing b.printing p.printing q.printing;
}

not_several : (lines files : List Text) → (lines ≢ [] → length files ≤ 1) → lines ≢ [] → 1 < length files → ⊥
not_several lines files alone some several =
    let one : length files ≤ 1 = alone some in
    omega arith

pub check_not_both : (rules : List Text) (given : List Row) (a : Check) → IsCheck rules given a
    → IsNoCheck rules given → ⊥
check_not_both rules given a p (no_rule r) = absurd (false≢true (sym r ∙ p.known))
check_not_both rules given a p (wrong_lines r) = absurd (false≢true (sym r ∙ p.written))
check_not_both rules given a p (several_checked l m) = not_several _ _ p.alone l m
check_not_both rules given a p (no_printing none) = printing_not_both given a.printing p.printing none

-- Several FILEs are given with `--lines`, or not.
one_or_several : (lines files : List Text)
    → (lines ≢ [] → length files ≤ 1) ⊎ ((lines ≢ []) × (1 < length files))
one_or_several [] files = inl (λ some. absurd (some refl))
one_or_several (l ∷ ls) [] = inl (λ some. omega arith)
one_or_several (l ∷ ls) (f ∷ []) = inl (λ some. omega arith)
one_or_several (l ∷ ls) (f ∷ g ∷ fs) = inr ((λ none. cc), omega arith)

-- At least one of the two. The proof assumes only that a vector with given items exists.
module _ (inputs : List Input → Vec Input Global) (inputs_are : (l : List Input) → (inputs l).items ≡ l)
    (texts : List Text → Vec Text Global) (texts_are : (l : List Text) → (texts l).items ≡ l)
    (ranges : List LineRange → Vec LineRange Global) (ranges_are : (l : List LineRange) → (ranges l).items ≡ l) where
  check_inputs : (files : List Text) → (list : InputList) × (inputs_of files ≡ all_inputs list)
  check_inputs [] = (record { first = Standard; rest = inputs [] }, ap (λ l. Standard ∷ l) (sym (inputs_are [])))
  check_inputs (f ∷ fs) = (
    record { first = input_of f; rest = inputs (map input_of fs) },
    ap (λ l. input_of f ∷ l) (sym (inputs_are (map input_of fs))),
  )

  check_by : (rules : List Text) (given : List Row) (r l : Bool)
      → are_rules rules (names_given given) ≡ r → are_lines (lines_given given) ≡ l
      → ((a : Check) × IsCheck rules given a) ⊎ IsNoCheck rules given
  check_by rules given false l er el = inr (no_rule er)
  check_by rules given true false er el = inr (wrong_lines el)
  check_by rules given true true er el =
      let list = check_inputs (files_given given) in
      elim (one_or_several (lines_given given) (files_given given)) [
        | inl alone ↦ elim (printing_or_not given) [
          | inl way ↦ inl (
            record {
              inputs = list.0;
              without = texts (names_given given);
              lines = ranges (lines_in (lines_given given));
              baseline = baseline_given given;
              printing = way.0;
            },
            record {
              inputs = list.1;
              without = texts_are (names_given given);
              known = er;
              lines = ranges_are (lines_in (lines_given given));
              written = el;
              alone = alone;
              baseline = refl;
              printing = way.1;
            },
          )
          | inr none ↦ inr (no_printing none)
        ]
        | inr several ↦ inr (several_checked several.0 several.1)
      ]

  pub check_or_not : (rules : List Text) (given : List Row)
      → ((a : Check) × IsCheck rules given a) ⊎ IsNoCheck rules given
  check_or_not rules given = check_by rules given _ _ refl refl
