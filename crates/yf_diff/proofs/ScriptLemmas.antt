-- One more step of a script.
use Rattle.std.proofs.Common.{◌≡◌, ◌∙◌, refl, ℕ, ◌+◌, ◌<◌, List, [], ◌∷◌, ◌++◌, length, drop, get_or, ap, append_assoc, add-one, drop-cons}
use Rattle.yf_diff.specs.Script.{Edit, olds, news, old_part, new_part}

olds_after : (script : List Edit) (x : Edit) (rest : List (List ℕ)) → olds (script ++ x ∷ []) ++ rest ≡ olds script ++ (old_part x ++ rest)
olds_after [] x rest = simp append_assoc
olds_after (y ∷ script) x rest = simp append_assoc (ap (λ z. old_part y ++ z) (olds_after script x rest))

news_after : (script : List Edit) (x : Edit) (rest : List (List ℕ)) → news (script ++ x ∷ []) ++ rest ≡ news script ++ (new_part x ++ rest)
news_after [] x rest = simp append_assoc
news_after (y ∷ script) x rest = simp append_assoc (ap (λ z. new_part y ++ z) (news_after script x rest))

-- a line of the old text is passed
pub old_passed : (done after : List Edit) (x : Edit) (line : List ℕ) (old : List (List ℕ)) (i : ℕ) → after ≡ done ++ x ∷ [] → old_part x ≡ line ∷ [] → line ≡ get_or old i [] → i < length old → olds done ++ drop i old ≡ old → olds after ++ drop (i + 1) old ≡ old
old_passed done after x line old i made is here l all = rw (made, olds_after done x (drop (i + 1) old), is, here, add-one, ← drop-cons old i []) all

-- no line of it is passed
olds_same : (done : List Edit) (x : Edit) → old_part x ≡ [] → olds (done ++ x ∷ []) ≡ olds done
olds_same [] x is = rw is refl
olds_same (y ∷ done) x is = ap (λ z. old_part y ++ z) (olds_same done x is)

pub old_stays : (done after : List Edit) (x : Edit) → after ≡ done ++ x ∷ [] → old_part x ≡ [] → olds after ≡ olds done
old_stays done after x made is = ap olds made ∙ olds_same done x is

pub new_more : (done after : List Edit) (x : Edit) (line : List ℕ) (new : List (List ℕ)) (j : ℕ) → after ≡ done ++ x ∷ [] → new_part x ≡ line ∷ [] → line ≡ get_or new j [] → j < length new → news after ++ drop (j + 1) new ≡ news done ++ drop j new
new_more done after x line new j made is here l = rw (made, news_after done x (drop (j + 1) new), is, here, add-one, ← drop-cons new j []) refl

pub new_passed : (done after : List Edit) (x : Edit) (line : List ℕ) (new : List (List ℕ)) (j : ℕ) → after ≡ done ++ x ∷ [] → new_part x ≡ line ∷ [] → line ≡ get_or new j [] → j < length new → news done ++ drop j new ≡ new → news after ++ drop (j + 1) new ≡ new
new_passed done after x line new j made is here l all = new_more done after x line new j made is here l ∙ all

pub new_stays : (done after : List Edit) (x : Edit) (new : List (List ℕ)) (j : ℕ) → after ≡ done ++ x ∷ [] → new_part x ≡ [] → news done ++ drop j new ≡ new → news after ++ drop j new ≡ new
new_stays done after x new j made is all = rw (made, news_after done x (drop j new), is) all
