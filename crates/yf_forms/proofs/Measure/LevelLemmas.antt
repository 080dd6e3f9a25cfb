-- The innermost open collection, which is the last of the stack.
use Rattle.std.proofs.Common.{◌≡◌, ℕ, ◌+◌, ◌-◌, ◌<◌, List, [], ◌∷◌, ◌++◌, length, set, get_or, reverse, sym, ap, ◌∙◌, arith}
use Rattle.std.proofs.Math.Seq.{set-append_seam, get_or-append_seam}
use Rattle.std.proofs.lemmas.List.{length-append, reverse-append}
use Rattle.yf_events.specs.Event.{EventValue}
use Rattle.yf_forms.specs.declared.form.layout_context.LayoutFrame.{LayoutFrame}
use Rattle.yf_forms.specs.declared.form.layout_context.LayoutContext.{LayoutContext}
use Rattle.yf_forms.specs.declared.form.measure.Measure.{Measure}
use Rattle.yf_forms.specs.Passes.DecidePass.{DecideInput, next_place, next_stack}
use Rattle.yf_forms.proofs.ListLemmas.{last_one}

-- the others, and the stack with that level changed
pub record Top {A : Type 0} (xs : List A) (n : ℕ) (o : A) : Type 0 where
  pub others : List A
  pub is : reverse xs ≡ o ∷ others
  pub changed : (w : A) → reverse (set xs (n - 1) w) ≡ w ∷ others

pub top : {A : Type 0} (xs : List A) (n : ℕ) (o : A) → n ≡ length xs → 0 < n → o ≡ get_or xs (n - 1) o → Top xs n o
top [] n o l p g = absurd (omega arith)
top (x ∷ xs) n o l p g =
    let s = last_one x xs in
    let long : length (x ∷ xs) ≡ length s.0 + 1 = ap length s.2 ∙ length-append s.0 (s.1 ∷ []) in
    let last : n - 1 ≡ length s.0 = omega (arith, l, long) in
    let same : o ≡ s.1 =
    g ∙ ap (λ v. get_or v (n - 1) o) s.2 ∙ ap (λ k. get_or (s.0 ++ (s.1 ∷ [])) k o) last ∙ get_or-append_seam s.0 s.1 [] o in
    record {
      others = reverse s.0;
      is = ap reverse s.2 ∙ reverse-append s.0 (s.1 ∷ []) ∙ ap (λ v. v ∷ reverse s.0) (sym same);
      changed = λ w. ap (λ v. reverse (set v (n - 1) w)) s.2 ∙ ap (λ k. reverse (set (s.0 ++ (s.1 ∷ [])) k w)) last
          ∙ ap reverse (set-append_seam s.0 s.1 [] w) ∙ reverse-append s.0 (w ∷ []);
    }

-- the margins of the next node in the innermost collection, and the note of it there

pub placed_on_top : (g : DecideInput) (e : EventValue) (i : ℕ) (m : Measure) (xs : List LayoutFrame) (n : ℕ) (o : LayoutFrame) (p : LayoutContext)
    → n ≡ length xs → 0 < n → o ≡ get_or xs (n - 1) o → ((others : List LayoutFrame) → p ≡ next_place g e i m (o ∷ others)) → p ≡ next_place g e i m (reverse xs)
placed_on_top g e i m xs n o p l q b h = let t = top xs n o l q b in h t.others ∙ ap (next_place g e i m) (sym t.is)

pub noted_on_top : (g : DecideInput) (e : EventValue) (i : ℕ) (m : Measure) (xs : List LayoutFrame) (n : ℕ) (o w : LayoutFrame)
    → n ≡ length xs → 0 < n → o ≡ get_or xs (n - 1) o → ((others : List LayoutFrame) → w ∷ others ≡ next_stack g e i m (o ∷ others))
    → reverse (set xs (n - 1) w) ≡ next_stack g e i m (reverse xs)
noted_on_top g e i m xs n o w l q b h = let t = top xs n o l q b in t.changed w ∙ h t.others ∙ ap (next_stack g e i m) (sym t.is)
