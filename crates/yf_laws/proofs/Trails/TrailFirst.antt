-- What trails a leaf is the first comment after its start and before the next leaf.
use Rattle.std.proofs.Common.{◌≡◌, ℕ, ◌+◌, ◌<◌, ◌≤◌, Bool, true, false, true≢false, not, ◌&&◌, ◌||◌, List, [], ◌∷◌, ◌++◌, flat_map, Option, Some, None, refl, sym, ap, ◌∙◌, subst, arith, append_assoc, append-nil}
use Rattle.std.specs.Prelude.{find, zip, nat_lt, if◌then◌else◌}
use Rattle.std.proofs.lemmas.Bool.{and_parts, and_from}
use Rattle.std.proofs.lemmas.Bool.Decides.{nat_tests}
use Rattle.std.proofs.lemmas.Option.{same_Some}
use Rattle.yf_comments.specs.Comment.{CommentValue}
use Rattle.yf_events.specs.declared.event.Span.{Span}
use Rattle.yf_laws.specs.Layouts.Layout.{Remark, Source, first_comment, is_among, is_before, next_leaf, trailing_leaf}
use Rattle.yf_laws.proofs.Writable.StillLeaves.{Still, more_still}
use Rattle.yf_laws.proofs.SameReading.CommentsCut.{In, in_first, in_rest, each_at, Upward, upward_more, upward_over}
use Rattle.yf_laws.proofs.Trails.RowTrails.{silent, trail_of}
use Rattle.yf_laws.proofs.Trails.TrailChoice.{next_after, rising, start_of_first}
use Rattle.yf_chars.proofs.Tests.{below, is_less}

-- The first of the comments that pass a test.
pub record FoundFirst (p : CommentValue → Bool) (cs : List CommentValue) (e : CommentValue) : Type 0 where
  pub among : In e cs
  pub passes : p e ≡ true
  pub first : (d : CommentValue) → In d cs → p d ≡ true → e.offset ≤ d.offset

pub found_first : (p : CommentValue → Bool) (cs : List CommentValue) (i : ℕ) (e : CommentValue) → Upward i cs → find p cs ≡ Some e → FoundFirst p cs e
found_first p [] i e a h = absurd cc
found_first p (c ∷ cs) i e (upward_more l a) h = go (p c) refl (found_first p cs (c.offset + 1) e a) h where
  here : p c ≡ true → c ≡ e → FoundFirst p (c ∷ cs) e
  here q s = subst (λ w. FoundFirst p (c ∷ cs) w) s (record { among = in_first; passes = q; first = λ d j r. least d j }) where
    least : (d : CommentValue) → In d (c ∷ cs) → c.offset ≤ d.offset
    least d in_first = omega arith
    least d (in_rest j) = let far : c.offset + 1 ≤ d.offset = each_at (upward_over (c.offset + 1) (omega arith) a) j in omega (arith, far)

  skipped : (d : CommentValue) → p c ≡ false → In d (c ∷ cs) → p d ≡ true → In d cs
  skipped d q in_first r = absurd (true≢false (sym r ∙ q))
  skipped d q (in_rest j) r = j

  go : (b : Bool) → p c ≡ b → (find p cs ≡ Some e → FoundFirst p cs e) → (if b then Some c else find p cs) ≡ Some e → FoundFirst p (c ∷ cs) e
  go true q f k = here q (same_Some c e k)
  go false q f k = let w = f k in record { among = in_rest w.among; passes = w.passes; first = λ d j r. w.first d (skipped d q j r) r }

-- this holds for comments with their notes
noted_first : (p : CommentValue → Bool) (cs : List CommentValue) (bs : List Bool) (r : Remark) → find (λ (q : Remark). p q.0) (zip cs bs) ≡ Some r → find p cs ≡ Some r.0
noted_first p [] bs r h = absurd cc
noted_first p (c ∷ cs) [] r h = absurd cc
noted_first p (c ∷ cs) (b ∷ bs) r h = go (p c) (noted_first p cs bs r) h where
  go : (w : Bool) → (find (λ (q : Remark). p q.0) (zip cs bs) ≡ Some r → find p cs ≡ Some r.0)
      → (if w then Some (c, b) else find (λ (q : Remark). p q.0) (zip cs bs)) ≡ Some r → (if w then Some c else find p cs) ≡ Some r.0
  go true f k = ap (λ (o : Remark). Some o.0) (same_Some (c, b) r k)
  go false f k = f k

-- A comment after the start of a leaf and before further leaves, with none between.
pub record FirstAfter (cs : List CommentValue) (from : ℕ) (post : List Span) (e : CommentValue) : Type 0 where
  pub among : In e cs
  pub after : from < e.offset
  pub before : is_before e.offset (start_of_first post) ≡ true
  pub first : (d : CommentValue) → In d cs → d.offset < e.offset → d.offset ≤ from

earlier_before : (o : Option ℕ) (d e : ℕ) → d < e → is_before e o ≡ true → is_before d o ≡ true
earlier_before None d e l h = refl
earlier_before (Some n) d e l h = let k : e < n = is_less e n h in below d n (omega (arith, l, k))

pub first_after : (cs : List CommentValue) (from : ℕ) (post : List Span) (e : CommentValue) → FoundFirst (λ d. nat_lt from d.offset && is_before d.offset (start_of_first post)) cs e → FirstAfter cs from post e
first_after cs from post e a =
    let parts = and_parts (nat_lt from e.offset) (is_before e.offset (start_of_first post)) a.passes in
    record {
      among = a.among;
      after = is_less from e.offset parts.0;
      before = parts.1;
      first = λ d j l. go d j l (nat_lt from d.offset) refl;
    } where
      not_above : (m n : ℕ) → nat_lt m n ≡ false → n ≤ m
      not_above m n e = grind (arith, nat_tests)

      go : (d : CommentValue) → In d cs → d.offset < e.offset → (b : Bool) → nat_lt from d.offset ≡ b → d.offset ≤ from
      go d j l true q =
          let least : e.offset ≤ d.offset = a.first d j (and_from _ _ q (earlier_before (start_of_first post) d.offset e.offset l (and_parts (nat_lt from e.offset) (is_before e.offset (start_of_first post)) a.passes).1)) in
          absurd (omega (arith, least, l))
      go d j l false q = not_above from d.offset q

-- what trails a leaf before these further ones
pub data LeafTrail (c : Source) (cs : List CommentValue) (s : Span) (post : List Span) : List CommentValue → Type 0 where
  nothing_trails : LeafTrail c cs s post []
  it_trails : (r : Remark) → first_comment c s ≡ Some r → (nat_lt r.0.offset s.end || r.1) ≡ true → FirstAfter cs s.start post r.0 → is_among c.key_comments r.0 ≡ false → LeafTrail c cs s post (r.0 ∷ [])

module _ (c : Source) (cs : List CommentValue) (bs : List Bool) (remarks : c.remarks ≡ zip cs bs) (up : rising c.leaves ≡ true) (order : Upward 0 cs) where
  pub leaf_trail : (pre : List Span) (s : Span) (post : List Span) → c.leaves ≡ pre ++ (s ∷ post) → LeafTrail c cs s post (trail_of c s)
  leaf_trail pre s post e = subst (λ w. LeafTrail c cs s post (trailing_leaf c s w)) (sym first) (go (find test (zip cs bs)) refl) where
    p : CommentValue → Bool
    p d = nat_lt s.start d.offset && is_before d.offset (start_of_first post)

    test : Remark → Bool
    test q = p q.0

    next : next_leaf c.leaves s.start ≡ start_of_first post
    next = ap (λ w. next_leaf w s.start) e ∙ next_after pre s post (subst (λ w. rising w ≡ true) e up)

    first : first_comment c s ≡ find test (zip cs bs)
    first = ap (λ w. find (λ (q : Remark). nat_lt s.start q.0.offset && is_before q.0.offset (next_leaf c.leaves s.start)) w) remarks
        ∙ ap (λ o. find (λ (q : Remark). nat_lt s.start q.0.offset && is_before q.0.offset o) (zip cs bs)) next

    unturned : (x y : Bool) → (x && not y) ≡ true → y ≡ false
    unturned true false h = refl
    unturned true true h = absurd (true≢false (sym h))
    unturned false y h = absurd (true≢false (sym h))

    by : (r : Remark) → find test (zip cs bs) ≡ Some r → (b : Bool) → ((nat_lt r.0.offset s.end || r.1) && not (is_among c.key_comments r.0)) ≡ b → LeafTrail c cs s post (if b then r.0 ∷ [] else [])
    by r f true q = it_trails r (first ∙ f) (and_parts (nat_lt r.0.offset s.end || r.1) (not (is_among c.key_comments r.0)) q).0 (first_after cs s.start post r.0 (found_first p cs 0 r.0 order (noted_first p cs bs r f))) (unturned (nat_lt r.0.offset s.end || r.1) (is_among c.key_comments r.0) q)
    by r f false q = nothing_trails

    go : (o : Option Remark) → find test (zip cs bs) ≡ o → LeafTrail c cs s post (trailing_leaf c s o)
    go None f = nothing_trails
    go (Some r) f = by r f ((nat_lt r.0.offset s.end || r.1) && not (is_among c.key_comments r.0)) refl

  -- among leaves with no comment between them, a comment may trail only the last
  pub last_trails : (pre ls : List Span) (s : Span) (post : List Span) → c.leaves ≡ pre ++ ((ls ++ (s ∷ [])) ++ post) → Still cs (ls ++ (s ∷ [])) → flat_map (trail_of c) (ls ++ (s ∷ [])) ≡ trail_of c s
  last_trails pre [] s post e a = append-nil (trail_of c s)
  last_trails pre (l ∷ []) s post e (more_still n a) = ap (λ w. w ++ (trail_of c s ++ [])) (silent c cs bs remarks up pre l s post e n) ∙ append-nil (trail_of c s)
  last_trails pre (l ∷ r ∷ ls) s post e (more_still n a) =
      ap (λ w. w ++ flat_map (trail_of c) (r ∷ (ls ++ (s ∷ [])))) (silent c cs bs remarks up pre l r ((ls ++ (s ∷ [])) ++ post) e n)
      ∙ last_trails (pre ++ (l ∷ [])) (r ∷ ls) s post (e ∙ sym (append_assoc pre (l ∷ []) (((r ∷ ls) ++ (s ∷ [])) ++ post))) a
