-- The start of a search among comments: for the comments, and for their values in a reading.
use Rattle.std.proofs.Common.{arith, ◌≡◌, ◌⊎◌, ◌∙◌, ap, Bool, false, true, inl, inr, length, List, [], ◌∷◌, map, None, Option, refl, subst, sym, ℕ, ⊎_elim}
use Rattle.std.specs.Prelude.{◌||◌, if◌then◌else◌}
use Rattle.std.proofs.lemmas.List.{get_or-map, length-map}
use Rattle.std.specs.List.Sorted.{IsNonDecreasingBy}
use Rattle.yf_comments.specs.Comment.{CommentValue, comment_value}
use Rattle.yf_comments.specs.declared.comment.Comment.{Comment}
use Rattle.yf_forms.specs.Passes.Halving.{MayBegin, StaysUnknown}
use Rattle.yf_forms.specs.Passes.Searches.{HalvesAfter}
use Rattle.yf_forms.specs.declared.form.comments_before.TheConstants.{UNKNOWN}
use Rattle.yf_forms.proofs.Measure.OffsetLemmas.{same_order}

pub begins_in_comments : (xs : List Comment) (cs : List CommentValue) (near : ℕ) → map comment_value xs ≡ cs
    → MayBegin (λ (c : CommentValue). c.offset) cs near → MayBegin (λ (c : Comment). c.offset) xs near
begins_in_comments xs cs near e m =
    ⊎_elim (λ u. inl u) (λ s. inr (same_order xs (subst (λ zs. IsNonDecreasingBy (λ (c : CommentValue). c.offset) zs) (sym e) s))) m

values_in_order : (xs : List Comment) → IsNonDecreasingBy (λ (c : Comment). c.offset) xs → IsNonDecreasingBy (λ (c : CommentValue). c.offset) (map comment_value xs)
values_in_order [] s i j d a b = absurd (omega arith)
values_in_order (x ∷ xs) s i j d a b =
    let long : length (map comment_value (x ∷ xs)) ≡ length (x ∷ xs) = length-map (x ∷ xs) comment_value in
    let h = s i j x a (omega (arith, long, b)) in
    let e = ap (λ (c : CommentValue). c.offset) (get_or-map comment_value (x ∷ xs) i x d (omega (arith, long, a, b))) in
    let f = ap (λ (c : CommentValue). c.offset) (get_or-map comment_value (x ∷ xs) j x d (omega (arith, long, b))) in
    omega (arith, h, e, f)

-- the first search
pub begins_first : (xs : List Comment) (cs : List CommentValue) (near : ℕ) → map comment_value xs ≡ cs → (near ≡ 0 → IsNonDecreasingBy (λ (c : Comment). c.offset) xs)
    → (near ≡ 0) ⊎ (near ≡ UNKNOWN) → MayBegin (λ (c : CommentValue). c.offset) cs near
begins_first xs cs near e s b =
    ⊎_elim (λ z. inr (subst (λ zs. IsNonDecreasingBy (λ (c : CommentValue). c.offset) zs) e (values_in_order xs (s z)))) (λ u. inl u) b

-- the next one
pub begins_next : (cs : List CommentValue) (near next : ℕ) → StaysUnknown near next → MayBegin (λ (c : CommentValue). c.offset) cs near
    → MayBegin (λ (c : CommentValue). c.offset) cs next
begins_next cs near next k m = ⊎_elim (λ u. inl (k u)) (λ s. inr s) m

-- The results of a search among them.

same_offsets : (xs : List Comment) → map (λ (c : Comment). c.offset) xs ≡ map (λ (c : CommentValue). c.offset) (map comment_value xs)
same_offsets [] = refl
same_offsets (x ∷ xs) = ap (λ os. x.offset ∷ os) (same_offsets xs)

offsets_in : (xs : List Comment) (cs : List CommentValue) → map comment_value xs ≡ cs
    → map (λ (c : Comment). c.offset) xs ≡ map (λ (c : CommentValue). c.offset) cs
offsets_in xs cs e = subst (λ zs. map (λ (c : Comment). c.offset) xs ≡ map (λ (c : CommentValue). c.offset) zs) e (same_offsets xs)

pub halves_in_comments : (xs : List Comment) (cs : List CommentValue) (from : ℕ) (to other o : Option ℕ) → map comment_value xs ≡ cs → to ≡ other
    → HalvesAfter (map (λ (c : Comment). c.offset) xs) from to o → HalvesAfter (map (λ (c : CommentValue). c.offset) cs) from other o
halves_in_comments xs cs from to other o e f h =
    subst (λ os. HalvesAfter os from other o) (offsets_in xs cs e) (subst (λ t. HalvesAfter (map (λ (c : Comment). c.offset) xs) from t o) f h)

-- the offset before which the search looks: for a leaf, for a node that can be kept, and for others

pub leaf_picked : (r leaf kept : Bool) (to at : Option ℕ) → r ≡ leaf → r ≡ true → to ≡ at → to ≡ (if leaf || kept then at else None)
leaf_picked r leaf kept to at e f g = rw (sym e ∙ f) g

pub kept_picked : (leaf kept : Bool) (to at : Option ℕ) → kept ≡ true → to ≡ at → to ≡ (if leaf || kept then at else None)
kept_picked true kept to at e g = g
kept_picked false kept to at e g = rw e g

pub none_picked : (r leaf kept : Bool) (at : Option ℕ) → r ≡ leaf → r ≡ false → kept ≡ false → None ≡ (if leaf || kept then at else None)
none_picked r leaf kept at e f g = rw (sym e ∙ f, g) refl
