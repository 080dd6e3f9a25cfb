-- The state of the printer's pass after some events: the printed text, and the open collections.
use Rattle.std.proofs.Common.{◌≡◌, ℕ, suc, ◌+◌, ◌<◌, List, [], ◌∷◌, ◌++◌, length, get_or, refl, sym, ap, ◌∙◌, arith, append_assoc}
use Rattle.std.specs.Prelude.{if◌then◌else◌}
use Rattle.std.proofs.lemmas.List.{length-append}
use Rattle.yf_events.specs.Event.{EventInText}
use Rattle.yf_forms.specs.declared.form.decide.Form.{Form}
use Rattle.yf_print.specs.declared.printer.PrintFrame.{PrintFrame}
use Rattle.yf_print.specs.Passes.Drafts.{Draft}
use Rattle.yf_forms.specs.NormalForms.Forms.{no_form}
use Rattle.yf_print.specs.Passes.PrintPass.{PrintState, looked, pass, state}
use Rattle.yf_print.specs.Passes.PrintWork.{Work}
use Rattle.yf_laws.proofs.Printer.SkipLemmas.{pass_append, pass_skips}
use Rattle.yf_chars.proofs.Tests.{below}

-- the last event that is skipped is among those that were passed
pub record PrinterAt (g : Work) (i : ℕ) (ys : List EventInText) (docs : ℕ) (w : PrintState) (e : Draft) (follows : List PrintFrame) : Type 0 where
  pub done : ℕ
  pub within : done < i + length ys
  pub is : pass g i ys w ≡ state e follows docs done

-- from one draft and stack to another, if the events that are skipped are before these
pub record Reaches (g : Work) (i : ℕ) (ys : List EventInText) (docs : ℕ) (d e : Draft) (levels follows : List PrintFrame) : Type 0 where
  pub goes : (p : ℕ) → p < i → PrinterAt g i ys docs (state d levels docs p) e follows

pub reaches_none : (g : Work) (i docs : ℕ) (d : Draft) (levels : List PrintFrame) → Reaches g i [] docs d d levels levels
unfolding pass
reaches_none g i docs d levels = record { goes = λ p l. record { done = p; within = omega (arith, l); is = refl } }

pub reaches_append : (g : Work) (i docs : ℕ) (ys zs : List EventInText) (c d e : Draft) (levels mid follows : List PrintFrame) → Reaches g i ys docs c d levels mid
    → Reaches g (i + length ys) zs docs d e mid follows → Reaches g i (ys ++ zs) docs c e levels follows
reaches_append g i docs ys zs c d e levels mid follows h k = record {
  goes = λ p l.
      let one = h.goes p l in
      let two = k.goes one.done one.within in
      let n : length (ys ++ zs) ≡ length ys + length zs = length-append ys zs in
      record {
        done = two.done;
        within = let low = two.within in omega (arith, low, n);
        is = pass_append g i ys zs (state c levels docs p) ∙ (ap (pass g (i + length ys) zs) one.is ∙ two.is);
      };
}

pub reaches_same : (g : Work) (i docs : ℕ) (ys : List EventInText) (d e f : Draft) (levels follows : List PrintFrame) → e ≡ f → Reaches g i ys docs d e levels follows
    → Reaches g i ys docs d f levels follows
reaches_same g i docs ys d e f levels follows q h = record {
  goes = λ p l. let one = h.goes p l in record { done = one.done; within = one.within; is = one.is ∙ ap (λ w. state w follows docs one.done) q };
}

-- an event that isn't skipped
pub reaches_event : (g : Work) (i docs : ℕ) (x : EventInText) (d e : Draft) (levels follows : List PrintFrame)
    → ((p : ℕ) → looked g i x (state d levels docs p) ≡ state e follows docs p) → Reaches g i (x ∷ []) docs d e levels follows
unfolding pass
reaches_event g i docs x d e levels follows h = record {
  goes = λ p l. record {
    done = p;
    within = omega (arith, l);
    is = ap (λ b. if b then looked g i x (state d levels docs p) else state d levels docs p) (below p i l) ∙ h p;
  };
}

-- an event after which all events of a node are skipped, up to an index
pub reaches_whole : (g : Work) (i docs last : ℕ) (x : EventInText) (tail : List EventInText) (d e : Draft) (levels follows : List PrintFrame) → last + 1 ≡ i + suc (length tail)
    → ((p : ℕ) → looked g i x (state d levels docs p) ≡ state e follows docs last) → Reaches g i (x ∷ tail) docs d e levels follows
unfolding pass
reaches_whole g i docs last x tail d e levels follows n h = record {
  goes = λ p l. record {
    done = last;
    within = omega (arith, n);
    is = ap (λ b. pass g (i + 1) tail (if b then looked g i x (state d levels docs p) else state d levels docs p)) (below p i l)
        ∙ (ap (pass g (i + 1) tail) (h p) ∙ pass_skips g (i + 1) tail (state e follows docs last) (omega (arith, n)));
  };
}

-- an event that begins a collection, so that the next one isn't skipped
pub reaches_begun : (g : Work) (i docs : ℕ) (x : EventInText) (d e : Draft) (levels follows : List PrintFrame)
    → ((p : ℕ) → looked g i x (state d levels docs p) ≡ state e follows docs i) → Reaches g i (x ∷ []) docs d e levels follows
unfolding pass
reaches_begun g i docs x d e levels follows h = record {
  goes = λ p l. record {
    done = i;
    within = omega arith;
    is = ap (λ b. if b then looked g i x (state d levels docs p) else state d levels docs p) (below p i l) ∙ h p;
  };
}

-- Forms from an index on.

pub record Part (all fs : List Form) (i : ℕ) : Type 0 where
  pub before : List Form
  pub after : List Form
  pub is : all ≡ before ++ (fs ++ after)
  pub index : length before ≡ i

pub front_part : {all : List Form} {i : ℕ} (fs gs : List Form) → Part all (fs ++ gs) i → Part all fs i
front_part fs gs a = record { before = a.before; after = gs ++ a.after; is = a.is ∙ ap (λ w. a.before ++ w) (append_assoc fs gs a.after); index = a.index }

pub back_part : {all : List Form} {i j : ℕ} (fs gs : List Form) → Part all (fs ++ gs) i → j ≡ i + length fs → Part all gs j
back_part {i = i} {j = j} fs gs a e = record {
  before = a.before ++ fs;
  after = a.after;
  is = a.is ∙ ap (λ w. a.before ++ w) (append_assoc fs gs a.after) ∙ sym (append_assoc a.before fs (gs ++ a.after));
  index = length-append a.before fs ∙ ap (λ n. n + length fs) a.index ∙ sym e;
}

got : (before gs : List Form) (f : Form) → get_or (before ++ (f ∷ gs)) (length before) no_form ≡ f
got [] gs f = refl
got (b ∷ before) gs f = got before gs f

pub first_form : {all : List Form} {i : ℕ} (f : Form) (fs : List Form) → Part all (f ∷ fs) i → get_or all i no_form ≡ f
first_form {all = all} {i = i} f fs a =
    ap (λ n. get_or all n no_form) (sym a.index) ∙ ap (λ w. get_or w (length a.before) no_form) a.is ∙ got a.before (fs ++ a.after) f
