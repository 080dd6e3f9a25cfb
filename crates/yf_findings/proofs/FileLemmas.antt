-- The problems of one more input, and one more problem of an input.
use Rattle.std.proofs.Common.{◌≡◌, ℕ, ◌+◌, ◌<◌, ◌≤◌, List, [], ◌∷◌, ◌++◌, length, map, take, drop, get_or, not, sym}
use Rattle.std.proofs.Common.{subst, ap, ◌∙◌, arith}
use Rattle.std.specs.Global.{Vec}
use Rattle.std.specs.List.{flat_map}
use Rattle.std.proofs.lemmas.Grind.{flat_map-append}
use Rattle.std.proofs.lemmas.List.{append_assoc, append-nil, drop_all, drop_more, get_or-map, length-map, map-append}
use Rattle.std.proofs.lemmas.List.{take_all, take_more}
use Rattle.std.proofs.lemmas.List.Concat.{flat_map-cons}
use Rattle.yf_findings.specs.Files.{ReportOf, entries_of, fix_for, fix_in, fix_of, fixes_from, fixes_of, replaced_all}
use Rattle.yf_findings.specs.Files.{replaced_by}
use Rattle.yf_findings.specs.declared.changes.Change.{Change}
use Rattle.yf_findings.specs.declared.files.FileProblems.{FileProblems}
use Rattle.yf_findings.specs.declared.owned.OwnedProblem.{OwnedProblem}
use Rattle.yf_report.specs.CodeQuality.{Entry, entry_of}
use Rattle.yf_report.specs.Fixes.{Replaced, replaced}
use Rattle.yf_report.specs.Reports.{IsReport}
use Rattle.yf_report.specs.Sarif.{Described}
use Rattle.yf_report.specs.declared.problem.Problem.{Problem}
use Rattle.yf_report.specs.declared.problem.Range.{Range}
use Rattle.yf_report.specs.declared.problem.Replacement.{Replacement}
use Rattle.yf_report.specs.declared.reports.Format.{Format}
use Rattle.yf_rules.specs.AllRules.{rule_names}

-- no input
pub listed_none : (ps : List Problem) → ps ≡ [] → map entry_of ps ≡ []
listed_none ps e = ap (map entry_of) e

one_file : (f : FileProblems) → flat_map entries_of (f ∷ []) ≡ entries_of f
one_file f = flat_map-cons entries_of f [] ∙ append-nil (entries_of f)

-- one more input
pub listed_more : (fs : List FileProblems) (k : ℕ) (d : FileProblems) (ps qs : List Problem) → k < length fs
    → map entry_of ps ≡ flat_map entries_of (take k fs) → map entry_of qs ≡ map entry_of ps ++ entries_of (get_or fs k d)
    → map entry_of qs ≡ flat_map entries_of (take (k + 1) fs)
listed_more fs k d ps qs h before e =
    e ∙ ap (λ x. x ++ entries_of (get_or fs k d)) before
    ∙ ap (λ x. flat_map entries_of (take k fs) ++ x) (sym (one_file (get_or fs k d)))
    ∙ sym (flat_map-append entries_of (take k fs) (get_or fs k d ∷ []))
    ∙ ap (flat_map entries_of) (sym (take_more fs k d h))

-- all inputs
pub listed_all : (fs : List FileProblems) (k : ℕ) (ps : List Problem) → length fs ≤ k
    → map entry_of ps ≡ flat_map entries_of (take k fs) → map entry_of ps ≡ flat_map entries_of fs
listed_all fs k ps h e = e ∙ ap (flat_map entries_of) (take_all k fs h)

-- no problem yet, one more, and all
module _ {A : Type 0} (g : A → Entry) (xs : List A) (old : List Entry) where
  pub added_none : (ps : List Problem) → map entry_of ps ≡ old → map entry_of ps ≡ old ++ map g (take 0 xs)
  added_none ps e = e ∙ sym (append-nil old)

  pub added_more : (k : ℕ) (d : A) (ps qs : List Problem) (p : Problem) → k < length xs → map entry_of ps ≡ old ++ map g (take k xs)
      → entry_of p ≡ g (get_or xs k d) → qs ≡ ps ++ p ∷ [] → map entry_of qs ≡ old ++ map g (take (k + 1) xs)
  added_more k d ps qs p h before same e =
      ap (map entry_of) e ∙ map-append entry_of ps (p ∷ [])
      ∙ ap (λ x. x ++ entry_of p ∷ []) before
      ∙ ap (λ x. old ++ map g (take k xs) ++ x ∷ []) same
      ∙ append_assoc old (map g (take k xs)) (g (get_or xs k d) ∷ [])
      ∙ ap (λ x. old ++ x) (sym (map-append g (take k xs) (get_or xs k d ∷ [])))
      ∙ ap (λ x. old ++ map g x) (sym (take_more xs k d h))

  pub added_all : (k : ℕ) (ps : List Problem) → length xs ≤ k → map entry_of ps ≡ old ++ map g (take k xs) → map entry_of ps ≡ old ++ map g xs
  added_all k ps h e = e ∙ ap (λ x. old ++ map g x) (take_all k xs h)

mapped_more : {A B R : Type 0} (f : A → R) (g : B → R) (xs : List A) (k : ℕ) (d : A) (ys zs : List B) (y : B)
    → k < length xs
    → map g ys ≡ map f (take k xs) → g y ≡ f (get_or xs k d) → zs ≡ ys ++ y ∷ [] → map g zs ≡ map f (take (k + 1) xs)
mapped_more f g xs k d ys zs y h before same e =
    ap (map g) e ∙ map-append g ys (y ∷ []) ∙ ap (λ x. x ++ g y ∷ []) before
    ∙ ap (λ x. map f (take k xs) ++ x ∷ []) same
    ∙ sym (map-append f (take k xs) (get_or xs k d ∷ [])) ∙ ap (map f) (sym (take_more xs k d h))

abbrev pub replaced_with : Range → List ℕ → Replaced
replaced_with range text = record { range = range; text = text }

-- the changes of an input in the form for reports: one more, and all
pub replaced_more : (cs : List Change) (k : ℕ) (d : Change) (rs qs : List Replacement) (r : Replacement) → k < length cs
    → map replaced rs ≡ map replaced_by (take k cs) → replaced r ≡ replaced_by (get_or cs k d) → qs ≡ rs ++ r ∷ []
    → map replaced qs ≡ map replaced_by (take (k + 1) cs)
replaced_more cs k d rs qs r h before same e = mapped_more replaced_by replaced cs k d rs qs r h before same e

pub replaced_end : (cs : List Change) (k : ℕ) (rs : List Replacement) → length cs ≤ k
    → map replaced rs ≡ map replaced_by (take k cs) → map replaced rs ≡ map replaced_by cs
replaced_end cs k rs h e = e ∙ ap (map replaced_by) (take_all k cs h)

-- the changes of one more input, and of all
pub fixes_in_more : (fs : List FileProblems) (k : ℕ) (d : FileProblems) (all new : List (Vec Replacement))
    (v : Vec Replacement)
    → k < length fs → map replaced_all all ≡ map fix_in (take k fs)
    → map replaced v.items ≡ map replaced_by (get_or fs k d).changes.items
    → new ≡ all ++ v ∷ [] → map replaced_all new ≡ map fix_in (take (k + 1) fs)
fixes_in_more fs k d all new v h before same e = mapped_more fix_in replaced_all fs k d all new v h before same e

pub fixes_in_all : (fs : List FileProblems) (k : ℕ) (all : List (Vec Replacement)) → length fs ≤ k
    → map replaced_all all ≡ map fix_in (take k fs) → map replaced_all all ≡ map fix_in fs
fixes_in_all fs k all h e = e ∙ ap (map fix_in) (take_all k fs h)

-- each input has its fix
pub fix_within : (fs : List FileProblems) (all : List (Vec Replacement)) (k : ℕ) → map replaced_all all ≡ map fix_in fs
    → k < length fs → k < length all
fix_within fs all k e h =
    let same = sym (length-map all replaced_all) ∙ ap length e ∙ length-map fs fix_in in
    omega (arith, h, same)

pub fix_at : (fs : List FileProblems) (all : List (Vec Replacement)) (k : ℕ) (f : FileProblems) (v : Vec Replacement)
    → map replaced_all all ≡ map fix_in fs → k < length fs → map replaced (get_or all k v).items ≡ fix_in
    (get_or fs k f)
fix_at fs all k f v e h =
    sym (get_or-map replaced_all all k v [] (fix_within fs all k e h))
    ∙ ap (λ x. get_or x k []) e ∙ get_or-map fix_in fs k f [] h

-- the fixes of the problems so far and of the others, after one more, and of all
pub fixes_more : {whole : List (List Replaced)} (k : ℕ) (xs : List OwnedProblem) (d : OwnedProblem)
    (ps qs : List Problem)
    (p : Problem) (fix rest : List Replaced) → k < length xs → map fix_of ps ++ fixes_from fix (drop k xs) ≡ whole
    → fix_of p ≡ fix_for (get_or xs k d).fixable fix → rest ≡ fix_for (not (get_or xs k d).fixable) fix
    → qs ≡ ps ++ p ∷ [] → map fix_of qs ++ fixes_from rest (drop (k + 1) xs) ≡ whole
fixes_more k xs d ps qs p fix rest h before same left e =
    let later = fixes_from rest (drop (k + 1) xs) in
    let one = ap (λ x. x ∷ later) same
    ∙ ap (λ r. fix_for (get_or xs k d).fixable fix ∷ fixes_from r (drop (k + 1) xs)) left
    ∙ ap (fixes_from fix) (sym (drop_more xs k d h)) in
    ap (λ x. map fix_of x ++ later) e ∙ ap (λ x. x ++ later) (map-append fix_of ps (p ∷ []))
    ∙ append_assoc (map fix_of ps) (fix_of p ∷ []) later ∙ ap (λ x. map fix_of ps ++ x) one ∙ before

pub fixes_all : {whole : List (List Replaced)} (k : ℕ) (xs : List OwnedProblem) (ps : List Problem)
    (fix : List Replaced)
    → length xs ≤ k → map fix_of ps ++ fixes_from fix (drop k xs) ≡ whole → map fix_of ps ≡ whole
fixes_all k xs ps fix h before =
    sym (append-nil (map fix_of ps)) ∙ ap (λ x. map fix_of ps ++ fixes_from fix x) (sym (drop_all k xs h)) ∙ before

-- the fixes of one more input, and of all
pub fixed_more : (fs : List FileProblems) (k : ℕ) (d : FileProblems) (ps qs : List Problem) → k < length fs
    → map fix_of ps ≡ flat_map fixes_of (take k fs) → map fix_of qs ≡ map fix_of ps ++ fixes_of (get_or fs k d)
    → map fix_of qs ≡ flat_map fixes_of (take (k + 1) fs)
fixed_more fs k d ps qs h before e =
    e ∙ ap (λ x. x ++ fixes_of (get_or fs k d)) before
    ∙ ap (λ x. flat_map fixes_of (take k fs) ++ x)
    (sym (flat_map-cons fixes_of (get_or fs k d) [] ∙ append-nil (fixes_of (get_or fs k d))))
    ∙ sym (flat_map-append fixes_of (take k fs) (get_or fs k d ∷ []))
    ∙ ap (flat_map fixes_of) (sym (take_more fs k d h))

pub fixed_all : (fs : List FileProblems) (k : ℕ) (ps : List Problem) → length fs ≤ k
    → map fix_of ps ≡ flat_map fixes_of (take k fs) → map fix_of ps ≡ flat_map fixes_of fs
fixed_all fs k ps h e = e ∙ ap (flat_map fixes_of) (take_all k fs h)

-- a report of these problems by these rules
pub one_report : (format : Format) (files : List FileProblems) (bytes : List ℕ) (rules : List Described) (given ps : List Problem)
    → map (λ (r : Described). r.id) rules ≡ rule_names → given ≡ ps → map entry_of ps ≡ flat_map entries_of files
    → map fix_of ps ≡ flat_map fixes_of files → IsReport format rules given bytes → ReportOf format files bytes
one_report format files bytes rules given ps named same listed fixed is = record {
  rules = rules;
  problems = ps;
  named = named;
  listed = listed;
  fixed = fixed;
  report = subst (λ (x : List Problem). IsReport format rules x bytes) same is;
}
