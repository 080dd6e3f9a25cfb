-- Pages and texts that are built piece by piece.
use Rattle.std.proofs.Common.{◌≡◌, ◌++◌, ◌∷◌, ◌∙◌, ℕ, List, [], ap, append_assoc, append-nil, rules, subst, sym}
use Rattle.std.proofs.lemmas.Grind.{flat_map-append}
use Rattle.std.proofs.lemmas.Str.{chars-IsAscii, chars-append, chars-nil}
use Rattle.std.proofs.lemmas.Str.Ascii.{IsAscii-from_all}
use Rattle.std.specs.Prelude.{Result, Ok, Err, OnOk, if◌then◌else◌}
use Rattle.std.specs.Result.{is_ok}
use Rattle.std.specs.Str.{IsUtf8, chars}
use Rattle.yf_explain.specs.Shown.{all_shown, shown}
use Rattle.yf_findings.specs.Excerpt.{window_of}
use Rattle.yf_findings.specs.Full.{line_pieces, marked_pieces}
use Rattle.yf_findings.specs.Pieces.{all_as_shown, begin, end}
use Rattle.yf_findings.specs.declared.excerpt.Window.{Window}
use Rattle.yf_findings.specs.declared.owned.OwnedProblem.{OwnedProblem}
use Rattle.yf_findings.specs.declared.pieces.Look.{Look}
use Rattle.yf_findings.specs.declared.pieces.Look.TheVariants.{Plain, Bold, Yellow, Green}
use Rattle.yf_findings.specs.declared.pieces.Piece.{Piece}

-- a page after one more character of a text
pub shown_more : (old new all cs : List ℕ) (c : ℕ) → new ≡ old ++ all_shown cs → all ≡ new ++ shown c
    → all ≡ old ++ all_shown (cs ++ c ∷ [])
shown_more old new all cs c e f =
    f ∙ ap (λ x. x ++ shown c) e ∙ append_assoc old (all_shown cs) (shown c)
    ∙ ap (λ x. old ++ (all_shown cs ++ x)) (sym (append-nil (shown c)))
    ∙ ap (λ x. old ++ x) (sym (flat_map-append shown cs (c ∷ [])))

-- the escapes are their own characters
pub begin_chars : (look : Look) → chars (begin look) ≡ begin look
begin_chars Plain = chars-nil
begin_chars Bold = chars-IsAscii _ (IsAscii-from_all (begin Bold) (search rules))
begin_chars Yellow = chars-IsAscii _ (IsAscii-from_all (begin Yellow) (search rules))
begin_chars Green = chars-IsAscii _ (IsAscii-from_all (begin Green) (search rules))

pub end_chars : (look : Look) → chars (end look) ≡ end look
end_chars Plain = chars-nil
end_chars Bold = chars-IsAscii _ (IsAscii-from_all (end Bold) (search rules))
end_chars Yellow = chars-IsAscii _ (IsAscii-from_all (end Yellow) (search rules))
end_chars Green = chars-IsAscii _ (IsAscii-from_all (end Green) (search rules))

-- the characters of a text after another one
pub text_added : {A E : Type 0} (r : Result A E) (old new text : List ℕ) → IsUtf8 old
    → new ≡ (if is_ok r then old ++ text else old) → OnOk r (chars new ≡ chars old ++ chars text)
text_added (Ok x) old new text u e = ap chars e ∙ chars-append old text u
text_added (Err x) old new text u e = tt

pub none_before : (bs all : List ℕ) → bs ≡ [] → chars bs ++ all ≡ all
none_before bs all e = ap (λ b. chars b ++ all) e ∙ ap (λ cs. cs ++ all) chars-nil

-- texts that are equal to those that were added
pub same_shown : {A E : Type 0} (r : Result A E) (old new a b d e x y z : List ℕ) → a ≡ x → b ≡ y → d ≡ z
    → OnOk r (new ≡ old ++ all_as_shown (a ∷ b ∷ d ∷ e ∷ [])) → OnOk r (new ≡ old ++ all_as_shown (x ∷ y ∷ z ∷ e ∷ []))
same_shown r old new a b d e x y z p q s added =
    subst (λ v. OnOk r (new ≡ old ++ all_as_shown (x ∷ y ∷ v ∷ e ∷ []))) s
    (subst (λ v. OnOk r (new ≡ old ++ all_as_shown (x ∷ v ∷ d ∷ e ∷ []))) q
    (subst (λ v. OnOk r (new ≡ old ++ all_as_shown (v ∷ b ∷ d ∷ e ∷ []))) p added))

-- the pieces of a line, from its characters and its shown part
pub line_added : {A E : Type 0} (r : Result A E) (old new : List Piece) (p : OwnedProblem) (cs text : List ℕ) (w : Window)
    → cs ≡ chars text → w ≡ window_of cs p.range → OnOk r (new ≡ old ++ marked_pieces p cs w)
    → OnOk r (new ≡ old ++ line_pieces p (chars text))
line_added r old new p cs text w e f added =
    subst (λ x. OnOk r (new ≡ old ++ line_pieces p x)) e (subst (λ x. OnOk r (new ≡ old ++ marked_pieces p cs x)) f added)
