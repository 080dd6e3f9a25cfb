-- The walk of `is_blank_after` has one result. It is the note if the offset is not within a break and the floor is
-- after only white space.
use Rattle.std.proofs.Common.{◌≡◌, ℕ, ◌<◌, Bool, true, List, refl, sym, ◌∙◌, subst, arith, true≢false}
use Rattle.std.specs.Str.{IsUtf8}
use Rattle.yf_comments.specs.Comments.{Blank}
use Rattle.yf_comments.proofs.BlankLemmas.{start_unique}
use Rattle.yf_grammar.specs.Productions.ReadParts.{NotedSince}
use Rattle.yf_grammar.proofs.Ends.SinceWalk.{WalkedSince, since_white, since_mark, since_break, since_met, since_none, since_end}
use Rattle.yf_block.specs.WalksBack.{WalksBack, floor_reached, white_passed, blank_line_met, break_passed, mark_passed, nothing_passed}

module _ {t : List ℕ} (u : IsUtf8 t) {floor : ℕ} where
  pub walks_one : {j : ℕ} {b r s : Bool} → WalksBack t floor j b r → WalksBack t floor j b s → r ≡ s
  walks_one (floor_reached l) (floor_reached m) = refl
  walks_one (floor_reached l) (white_passed z w d) = absurd (omega arith)
  walks_one (floor_reached l) (blank_line_met z w k) = absurd (omega arith)
  walks_one (floor_reached l) (break_passed z w k d) = absurd (omega arith)
  walks_one (floor_reached l) (mark_passed z w n o m d) = absurd (omega arith)
  walks_one (floor_reached l) (nothing_passed z w n m) = absurd (omega arith)
  walks_one (white_passed z w d) (floor_reached l) = absurd (omega arith)
  walks_one (white_passed z w d) (white_passed y v e) = walks_one d e
  walks_one (white_passed z w d) (blank_line_met y v k) = absurd (true≢false (sym w ∙ v))
  walks_one (white_passed z w d) (break_passed y v k e) = absurd (true≢false (sym w ∙ v))
  walks_one (white_passed z w d) (mark_passed y v n o m e) = absurd (true≢false (sym w ∙ v))
  walks_one (white_passed z w d) (nothing_passed y v n m) = absurd (true≢false (sym w ∙ v))
  walks_one (blank_line_met z w k) (floor_reached l) = refl
  walks_one (blank_line_met z w k) (white_passed y v e) = absurd (true≢false (sym v ∙ w))
  walks_one (blank_line_met z w k) (blank_line_met y v h) = refl
  walks_one (blank_line_met {i = i} z w k) (mark_passed y v n o m e) = absurd (n i k)
  walks_one (blank_line_met {i = i} z w k) (nothing_passed y v n m) = absurd (n i k)
  walks_one (break_passed z w k d) (floor_reached l) = absurd (omega arith)
  walks_one (break_passed z w k d) (white_passed y v e) = absurd (true≢false (sym v ∙ w))
  walks_one (break_passed {answer = r} z w k d) (break_passed y v h e) =
      walks_one (subst (λ i. WalksBack t floor i true r) (start_unique t u k h) d) e
  walks_one (break_passed {i = i} z w k d) (mark_passed y v n o m e) = absurd (n i k)
  walks_one (break_passed {i = i} z w k d) (nothing_passed y v n m) = absurd (n i k)
  walks_one (mark_passed z w n o m d) (floor_reached l) = absurd (omega arith)
  walks_one (mark_passed z w n o m d) (white_passed y v e) = absurd (true≢false (sym v ∙ w))
  walks_one (mark_passed z w n o m d) (blank_line_met {i = i} y v k) = absurd (n i k)
  walks_one (mark_passed z w n o m d) (break_passed {i = i} y v k e) = absurd (n i k)
  walks_one (mark_passed z w n o m d) (mark_passed y v p q l e) = walks_one d e
  walks_one (mark_passed z w n o m d) (nothing_passed y v p q) = absurd (q o m)
  walks_one (nothing_passed z w n m) (floor_reached l) = absurd (omega arith)
  walks_one (nothing_passed z w n m) (white_passed y v e) = absurd (true≢false (sym v ∙ w))
  walks_one (nothing_passed z w n m) (blank_line_met {i = i} y v k) = absurd (n i k)
  walks_one (nothing_passed z w n m) (break_passed {i = i} y v k e) = absurd (n i k)
  walks_one (nothing_passed z w n m) (mark_passed y v p q l e) = absurd (m q l)
  walks_one (nothing_passed z w n m) (nothing_passed y v p q) = refl

  -- a walk that has come from i to the offset, and goes on
  pub walks_noted : {i j : ℕ} {b r : Bool} → (floor < i → Blank t floor) → WalkedSince t floor i j b → WalksBack t floor j b r → NotedSince t floor i r
  walks_noted {i} {j} {b} f k (floor_reached l) = since_end t u floor i j b f l k
  walks_noted {i} {j} {b} f k (white_passed z w d) = walks_noted f (since_white t u floor i j b z w k) d
  walks_noted {i} {j} f k (blank_line_met {i = h} z w x) = since_met t u floor i j h x k
  walks_noted {i} {j} f k (break_passed {i = h} z w x d) =
      let o = k.order in
      walks_noted f (since_break t u floor i j h x (f (omega (arith, o, z))) z k) d
  walks_noted {i} {j} {b} f k (mark_passed z w n o m d) = walks_noted f (since_mark t u floor i j b o m k) d
  walks_noted {i} {j} {b} f k (nothing_passed z w n m) = since_none t u floor i j b (omega (arith, z)) w m n k
