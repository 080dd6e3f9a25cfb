-- The events of the normal form of a reading, by one pass over its events, its measures and its forms.
use Rattle.std.specs.Prelude.{ℕ, ◌+◌, ◌||◌, Bool, nat_lt, if◌then◌else◌, List, [], ◌∷◌, drop, get_or}
use Rattle.yf_forms.specs.declared.style.Style.{Style}
use Rattle.yf_events.specs.Event.{EventInText}
use Rattle.yf_forms.specs.declared.form.decide.Form.{Form}
use Rattle.yf_forms.specs.declared.form.measure.Measure.{Measure}
use Rattle.yf_forms.specs.Passes.DecidePass.{is_leaf_at}
use Rattle.yf_forms.specs.NormalForms.Forms.{no_form}
use Rattle.yf_forms.specs.NormalForms.Measures.{no_measure}
use Rattle.yf_forms.specs.NormalForms.Restyled.{restyled}

-- the index of the last event of the collection on one line that an event begins, or `until` if it begins none
abbrev pub kept_until : ℕ → Measure → Form → ℕ
kept_until until m f = if f.is_kept then m.last else until

-- a collection is between brackets if it is empty, or before the end of a collection on one line
abbrev pub is_flow_at : ℕ → ℕ → Measure → Bool
is_flow_at i until m = is_leaf_at i m.first_leaf || nat_lt i until

-- the events in their normal form; the first one has the index i in the list of measures, and the first of the forms
abbrev pub normal_from : Style → List Measure → ℕ → ℕ → List Form → List EventInText → List EventInText
normal_from house ms i until fs [] = []
normal_from house ms i until fs (e ∷ es) =
    restyled house (is_flow_at i (kept_until until (get_or ms i no_measure) (get_or fs 0 no_form)) (get_or ms i no_measure)) e
    ∷ normal_from house ms (i + 1) (kept_until until (get_or ms i no_measure) (get_or fs 0 no_form)) (drop 1 fs) es
