-- A mark in a text that grows.
use Rattle.std.proofs.Common.{◌≡◌, ◌≤◌, ◌<◌, ◌++◌, ℕ, Bool, true, false, refl, if◌then◌else◌, String, Global, List, length, take, Option, Some, None, IfSome, sym, ap, ◌∙◌, subst, arith}
use Rattle.std.proofs.lemmas.List.{length-append, take-append-le}
use Rattle.std.proofs.lemmas.Str.{IsCharBoundary-from_take, IsUtf8-string_bytes}
use Rattle.std.proofs.Math.Seq.{take-length}
use Rattle.std.specs.Str.{IsUtf8, IsCharBoundary}
use Rattle.std.specs.String.{string_bytes}
use Rattle.std.specs.String.Boundary.{IsSplitPoint}
use Rattle.yf_quoted.specs.declared.single.Mark.{Mark}

-- the text may be cut at the mark, and the scalar ends between characters, after its start
pub record Marked (from : ℕ) (t bs : List ℕ) (m : Mark) : Type 0 where
  pub within : m.len ≤ length bs
  pub front : IsUtf8 (take m.len bs)
  pub boundary : IsCharBoundary t m.end
  pub order : from < m.end

pub marked_more : (from : ℕ) (t : List ℕ) {ds : List ℕ} (bs : List ℕ) (o : Option Mark) (r : List ℕ) → IfSome o (Marked from t bs) → ds ≡ bs ++ r → IfSome o (Marked from t ds)
marked_more from t bs None r h e = h
marked_more from t {ds} bs (Some m) r h e =
    let same : take m.len ds ≡ take m.len bs = ap (take m.len) e ∙ take-append-le m.len bs r h.within in
    record {
      within = omega (arith, h.within, ap length e, length-append bs r);
      front = subst (λ w. IsUtf8 w) (sym same) h.front;
      boundary = h.boundary;
      order = h.order;
    }

pub marked_split : (from : ℕ) (t bs : List ℕ) (o : Option Mark) → IsUtf8 bs → IfSome o (Marked from t bs) → IfSome o (λ m. IsSplitPoint bs m.len)
marked_split from t bs None u h = h
marked_split from t bs (Some m) u h = let b = IsCharBoundary-from_take bs m.len u h.within h.front in (h.within, λ z l a. b.1 l a)

pub marked_end : (from : ℕ) (t bs : List ℕ) (o : Option Mark) → IfSome o (Marked from t bs) → IfSome o (λ m. IsCharBoundary t m.end)
marked_end from t bs None h = h
marked_end from t bs (Some m) h = h.boundary

-- a mark at the end of the text
pub mark_here : (from : ℕ) (t : List ℕ) (s : String Global) (o : Option Mark) (d : Bool) (l e : ℕ) → l ≡ length (string_bytes s)
    → IfSome o (Marked from t (string_bytes s)) → (d ≡ true → IsCharBoundary t e) → from < e → IfSome (if d then Some (record { len = l; end = e }) else o) (Marked from t (string_bytes s))
mark_here from t s o true l e q h b w =
    let whole : take l (string_bytes s) ≡ string_bytes s = ap (λ k. take k (string_bytes s)) q ∙ take-length (string_bytes s) in
    record { within = omega arith; front = subst (λ z. IsUtf8 z) (sym whole) (IsUtf8-string_bytes s); boundary = b refl; order = w }
mark_here from t s o false l e q h b w = h
