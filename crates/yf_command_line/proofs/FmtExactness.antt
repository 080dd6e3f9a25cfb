-- The rows of `fmt` either ask for one task or are refused, and never both. `FmtFormatExactness` adds its `--format`.
use Rattle.std.proofs.Common.{◌≡◌, ◌≢◌, ◌⊎◌, ◌<◌, Bool, true, false, List, [], ◌∷◌, map, length}
use Rattle.std.proofs.Common.{Vec, refl, sym, ap, subst, ◌∙◌, inl, inr, arith}
use Rattle.std.proofs.lemmas.Bool.{false≢true}
use Rattle.std.specs.List.{list_any}
use Rattle.std.specs.declared.alloc.Global.{Global}
use Rattle.clap.specs.Words.{Row, Text}
use Rattle.yf_line_ranges.specs.declared.range.LineRange.{LineRange}
use Rattle.yf_command_line.specs.Lines.{are_lines, lines_in}
use Rattle.yf_command_line.specs.Requests.{DoesPart, IsFmt, IsNoFmt, all_files, all_inputs, checks, diffs, files_given}
use Rattle.yf_command_line.specs.Requests.{input_of, inputs_of, is_standard_input, lines_given, writes}
use Rattle.yf_command_line.specs.Requests.IsNoFmt.{no_file, standard_input, written_and_checked}
use Rattle.yf_command_line.specs.Requests.IsNoFmt.{written_and_compared, several_printed, several_parts, no_lines}
use Rattle.yf_command_line.specs.declared.command.Fmt.{Fmt}
use Rattle.yf_command_line.specs.declared.command.Fmt.TheVariants as fmt
use Rattle.yf_command_line.specs.declared.command.Input.{Input}
use Rattle.yf_command_line.specs.declared.command.Input.TheVariants.{Standard}
use Rattle.yf_command_line.specs.declared.command.Output.TheVariants.{Lines}
use Rattle.yf_command_line.specs.declared.command.Part.{Part}
use Rattle.yf_command_line.specs.declared.command.Part.TheVariants as part

-- ---- at most one task

-- The two are equal, except for the capacity of their vectors.
abbrev pub SameFmt : Fmt → Fmt → Type 0
SameFmt (fmt.Print a) (fmt.Print b) = a ≡ b
SameFmt (fmt.Check a o) (fmt.Check b p) = all_inputs a ≡ all_inputs b
SameFmt (fmt.Diff a) (fmt.Diff b) = all_inputs a ≡ all_inputs b
SameFmt (fmt.Write a) (fmt.Write b) = all_files a ≡ all_files b
SameFmt (fmt.Part lines a) (fmt.Part others b) = (lines.items ≡ others.items) × (a ≡ b)
SameFmt _ _ = ⊥

part_once : (given : List Row) (a b : Part) → DoesPart given a → DoesPart given b → a ≡ b
part_once given (part.Print a) (part.Print b) p q = cc
part_once given (part.Print a) (part.Check b) p q = cc
part_once given (part.Print a) (part.Diff b) p q = cc
part_once given (part.Print a) (part.Write b) p q = cc
part_once given (part.Check a) (part.Print b) p q = cc
part_once given (part.Check a) (part.Check b) p q = cc
part_once given (part.Check a) (part.Diff b) p q = cc
part_once given (part.Check a) (part.Write b) p q = cc
part_once given (part.Diff a) (part.Print b) p q = cc
part_once given (part.Diff a) (part.Check b) p q = cc
part_once given (part.Diff a) (part.Diff b) p q = cc
part_once given (part.Diff a) (part.Write b) p q = cc
part_once given (part.Write a) (part.Print b) p q = cc
part_once given (part.Write a) (part.Check b) p q = cc
part_once given (part.Write a) (part.Diff b) p q = cc
part_once given (part.Write a) (part.Write b) p q = cc

pub fmt_once : (given : List Row) (a b : Fmt) → IsFmt given a → IsFmt given b → SameFmt a b
fmt_once given (fmt.Print a) (fmt.Print b) p q = cc
fmt_once given (fmt.Check a o) (fmt.Check b x) p q = cc
fmt_once given (fmt.Diff a) (fmt.Diff b) p q = cc
fmt_once given (fmt.Write a) (fmt.Write b) p q = cc
fmt_once given (fmt.Print a) (fmt.Check b x) p q = cc
fmt_once given (fmt.Print a) (fmt.Diff b) p q = cc
fmt_once given (fmt.Print a) (fmt.Write b) p q = cc
fmt_once given (fmt.Check a o) (fmt.Print b) p q = cc
fmt_once given (fmt.Check a o) (fmt.Diff b) p q = cc
fmt_once given (fmt.Check a o) (fmt.Write b) p q = cc
fmt_once given (fmt.Diff a) (fmt.Print b) p q = cc
fmt_once given (fmt.Diff a) (fmt.Check b x) p q = cc
fmt_once given (fmt.Diff a) (fmt.Write b) p q = cc
fmt_once given (fmt.Write a) (fmt.Print b) p q = cc
fmt_once given (fmt.Write a) (fmt.Check b x) p q = cc
fmt_once given (fmt.Write a) (fmt.Diff b) p q = cc
fmt_once given (fmt.Part lines a) (fmt.Part others b) p q = (cc, part_once given a b p.3 q.3)
fmt_once given (fmt.Print a) (fmt.Part others b) p q = absurd (q.0 p.0)
fmt_once given (fmt.Check a o) (fmt.Part others b) p q = absurd (q.0 p.0)
fmt_once given (fmt.Diff a) (fmt.Part others b) p q = absurd (q.0 p.0)
fmt_once given (fmt.Write a) (fmt.Part others b) p q = absurd (q.0 p.0)
fmt_once given (fmt.Part lines a) (fmt.Print b) p q = absurd (p.0 q.0)
fmt_once given (fmt.Part lines a) (fmt.Check b x) p q = absurd (p.0 q.0)
fmt_once given (fmt.Part lines a) (fmt.Diff b) p q = absurd (p.0 q.0)
fmt_once given (fmt.Part lines a) (fmt.Write b) p q = absurd (p.0 q.0)

-- ---- not both

-- With several FILEs there is more than one input.
pub several : (files : List Text) (input : Input) → inputs_of files ≡ input ∷ [] → 1 < length files → ⊥
several [] input one more = omega arith
several (file ∷ []) input one more = omega arith
several (file ∷ next ∷ rest) input one more = cc

-- Without `--lines` no word of it is wrong.
no_wrong_lines : (given : List Row) → lines_given given ≡ [] → are_lines (lines_given given) ≡ false → ⊥
no_wrong_lines given none wrong =
    let right : are_lines (lines_given given) ≡ true = ap are_lines none in
    absurd (false≢true (sym wrong ∙ right))

-- With one FILE there are not several.
single : (files : List Text) (file : Text) → files ≡ file ∷ [] → 1 < length files → ⊥
single files file one more =
    let two : 1 < length (file ∷ []) = subst (λ (l : List Text). 1 < length l) one more in
    omega arith

part_not_both : (given : List Row) (a : Part) → are_lines (lines_given given) ≡ true → DoesPart given a
    → IsNoFmt given → ⊥
part_not_both given (part.Print a) r p (no_file w e) = cc
part_not_both given (part.Print a) r p (standard_input w e) = cc
part_not_both given (part.Print a) r p (written_and_checked w e) = cc
part_not_both given (part.Print a) r p (written_and_compared w e) = cc
part_not_both given (part.Print a) r p (several_printed w c n m) = several (files_given given) a p.3 m
part_not_both given (part.Print a) r p (several_parts l m) = several (files_given given) a p.3 m
part_not_both given (part.Print a) r p (no_lines e) = absurd (false≢true (sym e ∙ r))
part_not_both given (part.Check a) r p (no_file w e) = cc
part_not_both given (part.Check a) r p (standard_input w e) = cc
part_not_both given (part.Check a) r p (written_and_checked w e) = cc
part_not_both given (part.Check a) r p (written_and_compared w e) = cc
part_not_both given (part.Check a) r p (several_printed w c n m) = cc
part_not_both given (part.Check a) r p (several_parts l m) = several (files_given given) a p.3 m
part_not_both given (part.Check a) r p (no_lines e) = absurd (false≢true (sym e ∙ r))
part_not_both given (part.Diff a) r p (no_file w e) = cc
part_not_both given (part.Diff a) r p (standard_input w e) = cc
part_not_both given (part.Diff a) r p (written_and_checked w e) = cc
part_not_both given (part.Diff a) r p (written_and_compared w e) = cc
part_not_both given (part.Diff a) r p (several_printed w c n m) = cc
part_not_both given (part.Diff a) r p (several_parts l m) = several (files_given given) a p.2 m
part_not_both given (part.Diff a) r p (no_lines e) = absurd (false≢true (sym e ∙ r))
part_not_both given (part.Write a) r p (no_file w e) = cc
part_not_both given (part.Write a) r p (standard_input w e) = cc
part_not_both given (part.Write a) r p (written_and_checked w e) = cc
part_not_both given (part.Write a) r p (written_and_compared w e) = cc
part_not_both given (part.Write a) r p (several_printed w c n m) = cc
part_not_both given (part.Write a) r p (several_parts l m) = single (files_given given) a p.3 m
part_not_both given (part.Write a) r p (no_lines e) = absurd (false≢true (sym e ∙ r))

pub fmt_not_both : (given : List Row) (a : Fmt) → IsFmt given a → IsNoFmt given → ⊥
fmt_not_both given (fmt.Print a) p (no_file w e) = cc
fmt_not_both given (fmt.Print a) p (standard_input w e) = cc
fmt_not_both given (fmt.Print a) p (written_and_checked w e) = cc
fmt_not_both given (fmt.Print a) p (written_and_compared w e) = cc
fmt_not_both given (fmt.Print a) p (several_printed w c n m) = several (files_given given) a p.4 m
fmt_not_both given (fmt.Check a o) p (no_file w e) = cc
fmt_not_both given (fmt.Check a o) p (standard_input w e) = cc
fmt_not_both given (fmt.Check a o) p (written_and_checked w e) = cc
fmt_not_both given (fmt.Check a o) p (written_and_compared w e) = cc
fmt_not_both given (fmt.Check a o) p (several_printed w c n m) = cc
fmt_not_both given (fmt.Diff a) p (no_file w e) = cc
fmt_not_both given (fmt.Diff a) p (standard_input w e) = cc
fmt_not_both given (fmt.Diff a) p (written_and_checked w e) = cc
fmt_not_both given (fmt.Diff a) p (written_and_compared w e) = cc
fmt_not_both given (fmt.Diff a) p (several_printed w c n m) = cc
fmt_not_both given (fmt.Write a) p (no_file w e) = cc
fmt_not_both given (fmt.Write a) p (standard_input w e) = cc
fmt_not_both given (fmt.Write a) p (written_and_checked w e) = cc
fmt_not_both given (fmt.Write a) p (written_and_compared w e) = cc
fmt_not_both given (fmt.Write a) p (several_printed w c n m) = cc
fmt_not_both given (fmt.Print a) p (several_parts l m) = l p.0
fmt_not_both given (fmt.Print a) p (no_lines e) = no_wrong_lines given p.0 e
fmt_not_both given (fmt.Check a o) p (several_parts l m) = l p.0
fmt_not_both given (fmt.Check a o) p (no_lines e) = no_wrong_lines given p.0 e
fmt_not_both given (fmt.Diff a) p (several_parts l m) = l p.0
fmt_not_both given (fmt.Diff a) p (no_lines e) = no_wrong_lines given p.0 e
fmt_not_both given (fmt.Write a) p (several_parts l m) = l p.0
fmt_not_both given (fmt.Write a) p (no_lines e) = no_wrong_lines given p.0 e
fmt_not_both given (fmt.Part lines a) p refusal = part_not_both given a p.1 p.3 refusal

-- ---- at least one of the two. The proof assumes only that vectors with given items exist.

module _ (inputs : List Input → Vec Input Global) (inputs_are : (l : List Input) → (inputs l).items ≡ l)
    (texts : List Text → Vec Text Global) (texts_are : (l : List Text) → (texts l).items ≡ l)
    (ranges : List LineRange → Vec LineRange Global) (ranges_are : (l : List LineRange) → (ranges l).items ≡ l) where
  fmt_by : (given : List Row) (w c d s : Bool) (files : List Text) → writes given ≡ w → checks given ≡ c
      → diffs given ≡ d → list_any is_standard_input (files_given given) ≡ s → files_given given ≡ files
      → lines_given given ≡ [] → ((a : Fmt) × IsFmt given a) ⊎ IsNoFmt given
  fmt_by given true c d s [] ew ec ed es ef el = inr (no_file ew ef)
  fmt_by given true c d true (f ∷ fs) ew ec ed es ef el = inr (standard_input ew es)
  fmt_by given true true d false (f ∷ fs) ew ec ed es ef el = inr (written_and_checked ew ec)
  fmt_by given true false true false (f ∷ fs) ew ec ed es ef el = inr (written_and_compared ew ed)
  fmt_by given true false false false (f ∷ fs) ew ec ed es ef el =
      inl (
        fmt.Write (record { first = f; rest = texts fs }),
        (el, ew, ec, ed, ef ∙ ap (λ l. f ∷ l) (sym (texts_are fs)), es),
      )
  fmt_by given false c true s [] ew ec ed es ef el =
      inl (
        fmt.Diff (record { first = Standard; rest = inputs [] }),
        (el, ew, ed, ap inputs_of ef ∙ ap (λ l. Standard ∷ l) (sym (inputs_are []))),
      )
  fmt_by given false c true s (f ∷ fs) ew ec ed es ef el =
      inl (
        fmt.Diff (record { first = input_of f; rest = inputs (map input_of fs) }),
        (el, ew, ed, ap inputs_of ef ∙ ap (λ l. input_of f ∷ l) (sym (inputs_are (map input_of fs)))),
      )
  fmt_by given false true false s [] ew ec ed es ef el =
      inl (
        fmt.Check (record { first = Standard; rest = inputs [] }) Lines,
        (el, ew, ec, ed, ap inputs_of ef ∙ ap (λ l. Standard ∷ l) (sym (inputs_are []))),
      )
  fmt_by given false true false s (f ∷ fs) ew ec ed es ef el =
      inl (
        fmt.Check (record { first = input_of f; rest = inputs (map input_of fs) }) Lines,
        (el, ew, ec, ed, ap inputs_of ef ∙ ap (λ l. input_of f ∷ l) (sym (inputs_are (map input_of fs)))),
      )
  fmt_by given false false false s [] ew ec ed es ef el = inl (fmt.Print Standard, (el, ew, ec, ed, ap inputs_of ef))
  fmt_by given false false false s (f ∷ []) ew ec ed es ef el =
      inl (fmt.Print (input_of f), (el, ew, ec, ed, ap inputs_of ef))
  fmt_by given false false false s (f ∷ g ∷ fs) ew ec ed es ef el =
      inr (several_printed ew ec ed (subst (λ (l : List Text). 1 < length l) (sym ef) (omega arith)))

  part_by : (given : List Row) (w c d s : Bool) (files : List Text) → writes given ≡ w → checks given ≡ c
      → diffs given ≡ d → list_any is_standard_input (files_given given) ≡ s → files_given given ≡ files
      → lines_given given ≢ [] → ((a : Part) × DoesPart given a) ⊎ IsNoFmt given
  part_by given w c d s (f ∷ g ∷ fs) ew ec ed es ef el =
      inr (several_parts el (subst (λ (l : List Text). 1 < length l) (sym ef) (omega arith)))
  part_by given true c d s [] ew ec ed es ef el = inr (no_file ew ef)
  part_by given true c d true (f ∷ []) ew ec ed es ef el = inr (standard_input ew es)
  part_by given true true d false (f ∷ []) ew ec ed es ef el = inr (written_and_checked ew ec)
  part_by given true false true false (f ∷ []) ew ec ed es ef el = inr (written_and_compared ew ed)
  part_by given true false false false (f ∷ []) ew ec ed es ef el = inl (part.Write f, (ew, ec, ed, ef, es))
  part_by given false c true s [] ew ec ed es ef el = inl (part.Diff Standard, (ew, ed, ap inputs_of ef))
  part_by given false c true s (f ∷ []) ew ec ed es ef el = inl (part.Diff (input_of f), (ew, ed, ap inputs_of ef))
  part_by given false true false s [] ew ec ed es ef el = inl (part.Check Standard, (ew, ec, ed, ap inputs_of ef))
  part_by given false true false s (f ∷ []) ew ec ed es ef el =
      inl (part.Check (input_of f), (ew, ec, ed, ap inputs_of ef))
  part_by given false false false s [] ew ec ed es ef el = inl (part.Print Standard, (ew, ec, ed, ap inputs_of ef))
  part_by given false false false s (f ∷ []) ew ec ed es ef el =
      inl (part.Print (input_of f), (ew, ec, ed, ap inputs_of ef))

  lines_by : (given : List Row) (lines : List Text) (right : Bool) → lines_given given ≡ lines
      → are_lines (lines_given given) ≡ right → ((a : Fmt) × IsFmt given a) ⊎ IsNoFmt given
  lines_by given [] right el er = fmt_by given _ _ _ _ _ refl refl refl refl refl el
  lines_by given (l ∷ ls) false el er = inr (no_lines er)
  lines_by given (l ∷ ls) true el er =
      let some : lines_given given ≢ [] = λ none. cc in
      elim (part_by given _ _ _ _ _ refl refl refl refl refl some) [
        | inl a ↦ inl (
          fmt.Part (ranges (lines_in (lines_given given))) a.0,
          (some, er, ranges_are (lines_in (lines_given given)), a.1),
        )
        | inr no_way ↦ inr no_way
      ]

  pub fmt_or_not : (given : List Row) → ((a : Fmt) × IsFmt given a) ⊎ IsNoFmt given
  fmt_or_not given = lines_by given _ _ refl refl
