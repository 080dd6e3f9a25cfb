-- The pass that writes the events of the normal form, as a loop: one event after another.
use Rattle.std.proofs.Common.{◌≡◌, ℕ, ◌+◌, Bool, List, [], ◌∷◌, ◌++◌, get_or, Some, refl, sym, ap, ◌∙◌, arith, append_assoc}
use Rattle.std.specs.Prelude.{slice_get, drop}
use Rattle.std.proofs.lemmas.List.{drop-drop, get_or-drop}
use Rattle.yf_events.specs.Event.{EventInText}
use Rattle.yf_forms.specs.declared.style.Style.{Style}
use Rattle.yf_forms.specs.declared.form.decide.Form.{Form}
use Rattle.yf_forms.specs.declared.form.measure.Measure.{Measure}
use Rattle.yf_forms.specs.NormalForms.Forms.{no_form}
use Rattle.yf_forms.specs.NormalForms.Measures.{no_measure}
use Rattle.yf_forms.specs.Passes.NormalEvents.{kept_until, is_flow_at, normal_from}
use Rattle.yf_forms.specs.NormalForms.Restyled.{restyled}
use Rattle.yf_forms.proofs.ListLemmas.{drop_here}

one_step : (q : Style) (ms : List Measure) (fs : List Form) (es : List EventInText) (i u : ℕ) (e : EventInText) → slice_get es i ≡ Some e
    → normal_from q ms i u (drop i fs) (drop i es)
    ≡ restyled q (is_flow_at i (kept_until u (get_or ms i no_measure) (get_or fs i no_form)) (get_or ms i no_measure)) e
    ∷ normal_from q ms (i + 1) (kept_until u (get_or ms i no_measure) (get_or fs i no_form)) (drop (i + 1) fs) (drop (i + 1) es)
one_step q ms fs es i u e a =
    ap (λ ys. normal_from q ms i u (drop i fs) ys) (drop_here es i e a)
    ∙ ap (λ g. by g (drop 1 (drop i fs))) same_form ∙ ap (λ gs. by (get_or fs i no_form) gs) (drop-drop 1 i fs) where
      by : Form → List Form → List EventInText
      by g gs = restyled q (is_flow_at i (kept_until u (get_or ms i no_measure) g) (get_or ms i no_measure)) e
          ∷ normal_from q ms (i + 1) (kept_until u (get_or ms i no_measure) g) gs (drop (i + 1) es)

      here : i + 0 ≡ i
      here = omega arith

      same_form : get_or (drop i fs) 0 no_form ≡ get_or fs i no_form
      same_form = get_or-drop i fs 0 no_form ∙ ap (λ n. get_or fs n no_form) here

pub pass_step : (q : Style) (ms : List Measure) (fs : List Form) (es : List EventInText) (i u v : ℕ) (x : EventInText) (m : Measure) (g : Form)
    (b : Bool) (done : List EventInText) (p : EventInText) → slice_get es i ≡ Some x → m ≡ get_or ms i no_measure → g ≡ get_or fs i no_form
    → v ≡ kept_until u m g → b ≡ is_flow_at i v m → p ≡ restyled q b x
    → (done ++ (p ∷ [])) ++ normal_from q ms (i + 1) v (drop (i + 1) fs) (drop (i + 1) es) ≡ done ++ normal_from q ms i u (drop i fs) (drop i es)
pass_step q ms fs es i u v x m g b done p a k n w c e =
    append_assoc done (p ∷ []) _ ∙ ap (λ r. done ++ r) (sym (one_step q ms fs es i u x a ∙ now)) where
      now : restyled q (is_flow_at i (kept_until u (get_or ms i no_measure) (get_or fs i no_form)) (get_or ms i no_measure)) x
          ∷ normal_from q ms (i + 1) (kept_until u (get_or ms i no_measure) (get_or fs i no_form)) (drop (i + 1) fs) (drop (i + 1) es)
          ≡ p ∷ normal_from q ms (i + 1) v (drop (i + 1) fs) (drop (i + 1) es)
      now = rw (e, c, w, k, n) refl
