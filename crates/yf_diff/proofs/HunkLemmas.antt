-- The text at one step.
use Rattle.std.proofs.Common.{◌≡◌, ℕ, ◌<◌, true, false, List, [], ◌∷◌, ◌++◌, length, drop, get_or, refl, sym, ap, ◌∙◌, append_assoc, drop-cons, suc}
use Rattle.yf_diff.specs.Script.{Edit}
use Rattle.yf_diff.specs.Unified.{is_shown, hunk, text_at, head_text, edit_text}

-- a hunk ends before an edit that is not shown
pub hunk_ended : (script : List Edit) (at : ℕ) (rest : List Edit) → is_shown script at ≡ false → hunk script at rest ≡ []
hunk_ended script at [] e = refl
hunk_ended script at (x ∷ rest) e = rw e refl

pub hidden_at : (script : List Edit) (at old_before new_before : ℕ) (rest : List Edit) → is_shown script at ≡ false → text_at script at old_before new_before rest ≡ []
hidden_at script at old_before new_before [] e = refl
hidden_at script at old_before new_before (x ∷ rest) e = rw e refl

pub shown_at : (script : List Edit) (at old_before new_before : ℕ) (x : Edit) → at < length script → is_shown script at ≡ true → x ≡ get_or script at x → text_at script at old_before new_before (drop at script) ≡ head_text script at old_before new_before (drop at script) ++ edit_text x
shown_at script at old_before new_before x l e is =
    let split : drop at script ≡ x ∷ drop (suc at) script = drop-cons script at x l ∙ ap (λ y. y ∷ drop (suc at) script) (sym is) in
    rw (split, e) refl

pub text_shown : (before middle after : List ℕ) (script : List Edit) (at old_before new_before : ℕ) (x : Edit) → at < length script → is_shown script at ≡ true → x ≡ get_or script at x → middle ≡ before ++ head_text script at old_before new_before (drop at script) → after ≡ middle ++ edit_text x → after ≡ before ++ text_at script at old_before new_before (drop at script)
text_shown before middle after script at old_before new_before x l e is head text = rw (text, head, shown_at script at old_before new_before x l e is) (append_assoc before (head_text script at old_before new_before (drop at script)) (edit_text x))
