-- The text with colors is the text without them and escapes.
use Rattle.std.proofs.Common.{◌≡◌, ◌++◌, ◌∷◌, ◌∙◌, ℕ, List, [], Bool, true, false, Vec, ap, append_assoc, append-nil, refl, subst, sym}
use Rattle.std.proofs.lemmas.Bool.{eqb-true, false_from_ne_true, false≢true}
use Rattle.std.proofs.lemmas.List.Concat.{flat_map-cons}
use Rattle.std.proofs.lemmas.List.Folds.{list_all-append}
use Rattle.std.specs.List.{list_all}
use Rattle.std.specs.Prelude.{nat_eq, Result, Ok, Err, IfOk, if◌then◌else◌}
use Rattle.std.specs.Str.{IsUtf8, chars}
use Rattle.std.specs.declared.alloc.Global.{Global}
use Rattle.yf_explain.specs.Shown.{AreWritten, is_written}
use Rattle.yf_findings.specs.Full.{FullText, full_pieces}
use Rattle.yf_findings.specs.Pieces.{all_painted, begin, end, painted, without_escapes, without_from}
use Rattle.yf_findings.specs.declared.files.FileProblems.{FileProblems}
use Rattle.yf_findings.specs.declared.pieces.Look.{Look}
use Rattle.yf_findings.specs.declared.pieces.Look.TheVariants.{Plain, Bold, Yellow, Green}
use Rattle.yf_findings.specs.declared.pieces.Piece.{Piece}
use Rattle.yf_lines.proofs.CoreSteady.{both_parts}

-- no character of a page begins an escape
no_escape : (c : ℕ) → is_written c ≡ true → nat_eq c 27 ≡ false
no_escape c h = false_from_ne_true (nat_eq c 27) (λ e. false≢true (subst (λ x. is_written x ≡ true) (eqb-true c 27 e) h))

page_kept : (page rest : List ℕ) → AreWritten page → without_from false (page ++ rest) ≡ page ++ without_from false rest
page_kept [] rest h = refl
page_kept (c ∷ cs) rest h =
    let both = both_parts (is_written c) (list_all is_written cs) h in
    subst
    (λ (b : Bool). (if b then without_from true (cs ++ rest) else c ∷ without_from false (cs ++ rest)) ≡ c ∷ (cs ++ without_from false rest))
    (sym (no_escape c both.0)) (ap (λ x. c ∷ x) (page_kept cs rest both.1))

look_kept : (look : Look) (page rest : List ℕ) → AreWritten page
    → without_from false ((begin look ++ (page ++ end look)) ++ rest) ≡ page ++ without_from false rest
look_kept Plain page rest h = ap (λ x. without_from false (x ++ rest)) (append-nil page) ∙ page_kept page rest h
look_kept Bold page rest h = ap (without_from false) (append_assoc page (end Bold) rest) ∙ page_kept page (end Bold ++ rest) h
look_kept Yellow page rest h = ap (without_from false) (append_assoc page (end Yellow) rest) ∙ page_kept page (end Yellow ++ rest) h
look_kept Green page rest h = ap (without_from false) (append_assoc page (end Green) rest) ∙ page_kept page (end Green ++ rest) h

all_kept : (ps : List Piece) → AreWritten (all_painted false ps) → without_from false (all_painted true ps) ≡ all_painted false ps
all_kept [] h = refl
all_kept (p ∷ ps) h =
    let parts : AreWritten (p.page ++ all_painted false ps) = subst AreWritten (flat_map-cons (painted false) p ps) h in
    let both =
    both_parts (list_all is_written p.page) (list_all is_written (all_painted false ps))
    (sym (list_all-append is_written p.page (all_painted false ps)) ∙ parts) in
    ap (without_from false) (flat_map-cons (painted true) p ps)
    ∙ look_kept p.look p.page (all_painted true ps) both.0
    ∙ ap (λ x. p.page ++ x) (all_kept ps both.1)
    ∙ sym (flat_map-cons (painted false) p ps)

without_colors : (colored : Bool) (ps : List Piece) → AreWritten (all_painted false ps)
    → without_escapes (all_painted colored ps) ≡ all_painted false ps
without_colors true ps h = all_kept ps h
without_colors false ps h =
    ap (without_from false) (sym (append-nil (all_painted false ps))) ∙ page_kept (all_painted false ps) [] h
    ∙ append-nil (all_painted false ps)

-- the text of the pieces is the text for people
pub full_text : {E : Type 0} (r : Result (Vec ℕ Global) E) (colored : Bool) (files : List FileProblems) (ps : List Piece)
    → ps ≡ full_pieces files → IfOk r (λ b. IsUtf8 b.items) → IfOk r (λ b. chars b.items ≡ all_painted colored ps)
    → IfOk r (λ _. AreWritten (all_painted false ps)) → IfOk r (λ b. FullText colored files b.items)
full_text (Ok b) colored files ps e u t w = record {
  utf8 = u;
  text = t ∙ ap (all_painted colored) e;
  written = subst (λ x. AreWritten (all_painted false x)) e w;
  plain = ap without_escapes t ∙ without_colors colored ps w ∙ ap (all_painted false) e;
}
full_text (Err x) colored files ps e u t w = tt
