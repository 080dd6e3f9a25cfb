use Rattle.std.proofs.Common.{◌≡◌, refl, ℕ, Option, Some, None, MatchOption, IfSome, pos, ◌+◌, ◌++◌, ◌<◌, ◌≤◌, List, length, take, [], ap, sym, ◌∙◌, subst, arith, length-append}
use Rattle.std.proofs.lemmas.List.{take-append-le, take_all}
use Rattle.std.specs.Str.{IsCharBoundary}
use Rattle.yf_chars.specs.Chain.{Chain, Chosen, Stuck, Nowhere}
use Rattle.yf_chars.specs.Chain.Chain.{done}
use Rattle.yf_lines.specs.Basic.{FlowPrefix}
use Rattle.yf_comments.specs.Comment.{CommentValue}
use Rattle.yf_comments.specs.Comments.{Row, LineRest, Upto}
use Rattle.yf_comments.specs.declared.separation.Reach.{Reach}
use Rattle.yf_comments.proofs.RowLemmas.{rest_moves}
use Rattle.yf_comments.proofs.LineEndLemmas.{next_starts, row_stuck, row_stuck_end}
use Rattle.yf_comments.proofs.SeparateLemmas.{rows_next, best_here, best_still, stuck_still, prefix_from, prefix_farthest}
use Rattle.yf_comments.proofs.separation.last_reach.Goals as goal

abbrev Reached : List ℕ → ℕ → ℕ → ℕ → List CommentValue → Option Reach → Type 0
Reached t w i p xs o = MatchOption o (Stuck (Upto t (pos w) i p))
    (λ r. Chosen (Upto t (pos w) i p) r.end (take r.count xs) × (r.count ≤ length xs) × IsCharBoundary t r.end)

reached_first : (t : List ℕ) (w i : ℕ) (xs : List CommentValue) (o : Option Reach) → xs ≡ []
    → MatchOption o (Stuck (Upto t (pos w) i i)) (λ r. Chosen (Upto t (pos w) i i) r.end []) → IfSome o (λ r. r.count ≡ 0)
    → IfSome o (λ r. IsCharBoundary t r.end) → Reached t w i i xs o
reached_first t w i xs None e m k b = m
reached_first t w i xs (Some r) e m k b =
    let none : take r.count xs ≡ [] = ap (λ n. take n xs) k in
    (subst (λ v. Chosen (Upto t (pos w) i i) r.end v) (sym none) m, omega arith, b)

reached_still : (t : List ℕ) (w i p q : ℕ) (xs ys : List CommentValue) (o : Option Reach) → Chain (Row t) i p xs → p < length t
    → (x : List CommentValue) × LineRest t p q x × (ys ≡ xs ++ x) → Nowhere (FlowPrefix t (pos w) q) → Reached t w i p xs o → Reached t w i q ys o
reached_still t w i p q xs ys None k l f none m = stuck_still k l f none m
reached_still t w i p q xs ys (Some r) k l f none m =
    let same : take r.count xs ≡ take r.count ys = sym (take-append-le r.count xs f.0 m.1) ∙ ap (λ v. take r.count v) (sym f.2) in
    let longer : length ys ≡ length xs + length f.0 = ap length f.2 ∙ length-append xs f.0 in
    (subst (λ v. Chosen (Upto t (pos w) i q) r.end v) same (best_still k l f none m.0), omega (arith, m.1), m.2)

-- the postcondition of the loop
abbrev Left : List ℕ → ℕ → ℕ → List CommentValue → Option Reach → Type 0
Left t w i xs o = (p : ℕ) × Chain (Row t) i p xs × Stuck (Row t p)
    × MatchOption o (Stuck (Upto t (pos w) i p)) (λ r. Chosen (Upto t (pos w) i p) r.end (take r.count xs))

left : (t : List ℕ) (w i p : ℕ) (xs : List CommentValue) (o : Option Reach) → Chain (Row t) i p xs → Stuck (Row t p) → Reached t w i p xs o
    → Left t w i xs o
left t w i p xs None k s m = (p, k, s, m)
left t w i p xs (Some r) k s m = (p, k, s, m.0)

pub rows-init : goal.rows-init
rows-init c = record {
  rows = subst (λ v. Chain (Row c.args.s.now) c.args.at c.args.at v) (sym c.requires.fresh) done;
  boundary = c.requires.boundary;
  end = c.requires.first;
  whites = c.requires.whites;
  all = c.requires.all;
  starts = λ l. c.is_line_start-starts.ensures;
  best = reached_first c.args.s.now c.args.width c.args.at c.args.comments.now c.first_reach-reach.result c.requires.fresh
      c.first_reach-reach.ensures.reads c.first_reach-reach.ensures.none c.first_reach-reach.ensures.boundary;
}

pub rows-smaller-then-is_indented : goal.rows-smaller-then-is_indented
rows-smaller-then-is_indented c =
    let f = rw c.in-Some.is at c.in_ok-next.ensures.reads in
    let b = rw c.in-Some.is at c.in_ok-next.ensures.boundary in
    let m = rest_moves f.1 c.rows-test.true in
    omega (arith, b.0)

pub rows-preserved-then-is_indented : goal.rows-preserved-then-is_indented
rows-preserved-then-is_indented c =
    let f = rw c.in-Some.is at c.in_ok-next.ensures.reads in
    let w = c.skip_whites-end.ensures in
    let p = prefix_farthest (prefix_from c.args.width refl c.if-is_indented.ensures w.whites.1 w.all) w.all in
    let all : take c.len.result c.next_row.new.comments ≡ c.next_row.new.comments = take_all c.len.result c.next_row.new.comments (omega (arith, c.len.ensures)) in
    record {
      rows = rows_next c.rows.invariant.rows c.rows-test.true f;
      boundary = rw c.in-Some.is at c.in_ok-next.ensures.boundary;
      end = c.skip_whites-end.ensures.boundary;
      whites = c.skip_whites-end.ensures.whites;
      all = c.skip_whites-end.ensures.all;
      starts = next_starts f.1;
      best = (
        subst (λ v. Chosen (Upto c.args.s.now (pos c.args.width) c.args.at c.in-Some.next) c.skip_whites-end.result v) (sym all)
            (best_here c.rows.invariant.rows c.rows-test.true f p w.all),
        omega (arith, c.len.ensures),
        w.boundary,
      );
    }

pub rows-smaller : goal.rows-smaller
rows-smaller c =
    let f = rw c.in-Some.is at c.in_ok-next.ensures.reads in
    let b = rw c.in-Some.is at c.in_ok-next.ensures.boundary in
    let m = rest_moves f.1 c.rows-test.true in
    omega (arith, b.0)

pub rows-preserved : goal.rows-preserved
rows-preserved c =
    let f = rw c.in-Some.is at c.in_ok-next.ensures.reads in
    record {
      rows = rows_next c.rows.invariant.rows c.rows-test.true f;
      boundary = rw c.in-Some.is at c.in_ok-next.ensures.boundary;
      end = c.skip_whites-end.ensures.boundary;
      whites = c.skip_whites-end.ensures.whites;
      all = c.skip_whites-end.ensures.all;
      starts = next_starts f.1;
      best = reached_still c.args.s.now c.args.width c.args.at c.rows.place c.in-Some.next c.rows.comments c.next_row.new.comments c.rows.reach
          c.rows.invariant.rows c.rows-test.true f c.if-is_indented.ensures c.rows.invariant.best;
    }

pub returns-clause-reads : goal.returns-clause-reads
returns-clause-reads c =
    let e : c.rows.place ≡ length c.args.s.now = omega (arith, c.rows.invariant.boundary.0) in
    left c.args.s.now c.args.width c.args.at c.rows.place c.rows.comments c.rows.reach c.rows.invariant.rows (row_stuck_end e) c.rows.invariant.best

pub returns-in-None-clause-reads : goal.returns-in-None-clause-reads
returns-in-None-clause-reads c =
    let s = rw c.in-None.is at c.in_ok-next.ensures.reads in
    let same = rw c.in-None.is at c.in_ok-next.ensures.unchanged in
    subst (λ v. Left c.args.s.now c.args.width c.args.at v c.rows.reach) (sym same)
    (left c.args.s.now c.args.width c.args.at c.rows.place c.rows.comments c.rows.reach c.rows.invariant.rows (row_stuck s) c.rows.invariant.best)
