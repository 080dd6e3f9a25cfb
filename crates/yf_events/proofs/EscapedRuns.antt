-- A text is written in runs of bytes that are not escaped, and the escapes between them.
use Rattle.std.proofs.Common.{ℕ, zero, suc, ◌-◌, ◌<◌, ◌≤◌, ◌≡◌, Bool, false, List, [], ◌∷◌, ◌++◌, length, take, drop, refl, sym, ap, ◌∙◌, arith, take-append-drop, slice_index, Option, subst}
use Rattle.std.proofs.lemmas.List.Concat.{flat_map-append}
use Rattle.std.proofs.lemmas.List.{take_rest}
use Rattle.std.proofs.lemmas.Bool.Decides.{nat_tests}
use Rattle.yf_lines.specs.Output.{Wrote}
use Rattle.yf_lines.proofs.OutputLemmas.{Progress, progress_done}
use Rattle.yf_events.specs.Notation.{escaped, escaped_byte, is_escaped}
use Rattle.yf_events.specs.Plain.{PlainBetween}

escaped_nil : escaped [] ≡ []
unfolding escaped
escaped_nil = refl

escaped_cons : (c : ℕ) (t : List ℕ) → escaped (c ∷ t) ≡ escaped_byte c ++ escaped t
unfolding escaped
escaped_cons c t = refl

escaped_join : (s t : List ℕ) → escaped (s ++ t) ≡ escaped s ++ escaped t
unfolding escaped
escaped_join s t = flat_map-append escaped_byte s t

plain_byte : (c : ℕ) → is_escaped c ≡ false → escaped_byte c ≡ c ∷ []
unfolding escaped_byte is_escaped
plain_byte c h = grind (arith, nat_tests)

-- a run of bytes that are not escaped is written unchanged
plain_run : (t : List ℕ) (n : ℕ) → n ≤ length t → ((k : ℕ) → k < n → is_escaped (slice_index t k) ≡ false) → escaped (take n t) ≡ take n t
plain_run t zero l h = escaped_nil
plain_run [] (suc n) l h = absurd (omega arith)
plain_run (c ∷ t) (suc n) l h =
    escaped_cons c (take n t) ∙ ap (λ w. w ++ escaped (take n t)) (plain_byte c (h 0 (omega arith)))
    ∙ ap (λ w. c ∷ w) (plain_run t n (omega arith) (λ k p. h (suc k) (omega arith)))

-- a run that is written unchanged, and the rest of the text
run_first : (t : List ℕ) (n : ℕ) → n ≤ length t → ((k : ℕ) → k < n → is_escaped (slice_index t k) ≡ false)
    → escaped t ≡ take n t ++ escaped (drop n t)
run_first t n l h =
    ap escaped (sym (take-append-drop n t)) ∙ escaped_join (take n t) (drop n t) ∙ ap (λ w. w ++ escaped (drop n t)) (plain_run t n l h)

pub at_run : (old new : Option (List ℕ)) (before after : Bool) (text t x y : List ℕ) (n : ℕ) → Progress old new before after text (escaped t)
    → n ≤ length t → ((k : ℕ) → k < n → is_escaped (slice_index t k) ≡ false) → x ≡ take n t → y ≡ drop n t
    → Progress old new before after text (x ++ escaped y)
at_run old new before after text t x y n p l h front back =
    subst (Progress old new before after text) (run_first t n l h ∙ ap (λ w. w ++ escaped (drop n t)) (sym front) ∙ ap (λ w. x ++ escaped w) (sym back)) p

-- nothing is left
pub at_end : (old new : Option (List ℕ)) (before after : Bool) (text y : List ℕ) → Progress old new before after text (escaped y)
    → length y ≡ 0 → Wrote old new before after text
at_end old new before after text [] p e =
    progress_done old new before after text (subst (Progress old new before after text) escaped_nil p)
at_end old new before after text (c ∷ y) p e = absurd (omega (arith, e))

-- an escape, and the rest after it
pub at_escape : (old new : Option (List ℕ)) (before after : Bool) (text y : List ℕ) → Progress old new before after text (escaped y)
    → 0 < length y → Progress old new before after text (escaped_byte (slice_index y 0) ++ escaped (take (length y - 1) (drop 1 y)))
at_escape old new before after text [] p l = absurd (omega arith)
at_escape old new before after text (c ∷ y) p l =
    subst (Progress old new before after text) (escaped_cons c y ∙ ap (λ w. escaped_byte c ++ escaped w) (sym (take_rest (c ∷ y) 1))) p

-- a text in two parts
pub escaped_parts : {text : List ℕ} (front back : List ℕ) → text ≡ front ++ back → escaped text ≡ escaped front ++ escaped back
escaped_parts front back is = ap escaped is ∙ escaped_join front back

-- a text of bytes that are not escaped
pub escaped_plain : (bytes text : List ℕ) → bytes ≡ text → PlainBetween bytes 0 (length bytes) → escaped text ≡ text
escaped_plain bytes text same h = subst (λ t. escaped t ≡ t) same (whole bytes h) where
  whole : (t : List ℕ) → PlainBetween t 0 (length t) → escaped t ≡ t
  whole [] h = escaped_nil
  whole (c ∷ t) h =
      escaped_cons c t ∙ ap (λ w. w ++ escaped t) (plain_byte c (h 0 (omega arith) (omega arith)))
      ∙ ap (λ w. c ∷ w) (whole t (λ k p q. h (suc k) (omega arith) (omega arith)))
