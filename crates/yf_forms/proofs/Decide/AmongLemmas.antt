-- The position of the events of a part of a tree among all events.
use Rattle.std.proofs.Common.{◌≡◌, ℕ, ◌+◌, List, [], ◌∷◌, ◌++◌, length, map, Some, refl, sym, ap, ◌∙◌, append_assoc}
use Rattle.std.specs.Prelude.{slice_get}
use Rattle.std.proofs.lemmas.List.{length-append}
use Rattle.yf_events.specs.Event.{EventInText}
use Rattle.yf_forms.specs.Nodes.SingleNodes.{NodeAt}
use Rattle.yf_events.specs.Tree.{Node, flat}

-- these events begin at the index
pub record Among (es ys : List EventInText) (i : ℕ) : Type 0 where
  pub before : List EventInText
  pub after : List EventInText
  pub is : es ≡ before ++ (ys ++ after)
  pub index : length before ≡ i

pub node_at : {es : List EventInText} {i : ℕ} (x : Node) → Among es (flat x) i → NodeAt es i x
node_at x a = record { before = a.before; after = a.after; is = a.is; index = a.index }

pub front : {es : List EventInText} {i : ℕ} (ys zs : List EventInText) → Among es (ys ++ zs) i → Among es ys i
front ys zs a = record {
  before = a.before;
  after = zs ++ a.after;
  is = a.is ∙ ap (λ w. a.before ++ w) (append_assoc ys zs a.after);
  index = a.index;
}

pub back : {es : List EventInText} {i : ℕ} (ys zs : List EventInText) → Among es (ys ++ zs) i → Among es zs (i + length ys)
back {i = i} ys zs a = record {
  before = a.before ++ ys;
  after = a.after;
  is = a.is ∙ ap (λ w. a.before ++ w) (append_assoc ys zs a.after) ∙ sym (append_assoc a.before ys (zs ++ a.after));
  index = length-append a.before ys ∙ ap (λ n. n + length ys) a.index;
}

pub after_first : {es : List EventInText} {i : ℕ} (e : EventInText) (ys : List EventInText) → Among es (e ∷ ys) i → Among es ys (i + 1)
after_first e ys a = back (e ∷ []) ys a

got : {X : Type 0} (f : EventInText → X) (before ys : List EventInText) (e : EventInText) → slice_get (map f (before ++ (e ∷ ys))) (length before) ≡ Some (f e)
got f [] ys e = refl
got f (b ∷ before) ys e = got f before ys e

pub first_at : {X : Type 0} {es : List EventInText} {i : ℕ} (f : EventInText → X) (e : EventInText) (ys : List EventInText) → Among es (e ∷ ys) i
    → slice_get (map f es) i ≡ Some (f e)
first_at {es = es} f e ys a =
    ap (λ n. slice_get (map f es) n) (sym a.index) ∙ ap (λ w. slice_get (map f w) (length a.before)) a.is
    ∙ got f a.before (ys ++ a.after) e
