-- The comments that the reader of streams has read so far: each has its note of blank lines, with the floor that the
-- events before it set.
use Rattle.std.proofs.Common.{◌≡◌, ℕ, ◌<◌, ◌≤◌, Bool, true, List, ◌++◌, length, refl, sym, ap, ◌∙◌, subst, arith}
use Rattle.std.specs.Str.{IsUtf8}
use Rattle.yf_chars.specs.Text.{code}
use Rattle.yf_chars.specs.Chain.{Chain}
use Rattle.yf_chars.specs.Chain.Chain.{done, step}
use Rattle.yf_chars.proofs.ChainLemmas.{chain_forward}
use Rattle.yf_chars.proofs.TextLemmas.{next_later, within_from_code}
use Rattle.yf_comments.specs.Comment.{CommentValue}
use Rattle.yf_comments.specs.Comments.{Blank}
use Rattle.yf_events.specs.Event.{EventInText}
use Rattle.yf_grammar.specs.Productions.ReadParts.{NotedSince, end_or, floor_after_event}
use Rattle.yf_stream.specs.DocumentReaders.{FloorNote, PrefixRead, PrefixRow, SameButNotes, line_row, mark_row, none_renoted, one_renoted}
use Rattle.yf_stream.specs.ReadingOf.{NotedComments, floor_at, no_comment, one_comment}
use Rattle.yf_stream.specs.Stream.{Documents, only_comments}
use Rattle.yf_stream.specs.declared.documents.Parts.{Parts}
use Rattle.yf_stream.specs.declared.documents.StreamCursor.{StreamCursor}
use Rattle.yf_stream.proofs.BlankNotes.CommentNotes.{Each, Guard, NotedComment, each_join, each_weaker, guard_later, no_element, one_element, rest_told, since_guarded}
use Rattle.yf_stream.proofs.BlankNotes.FloorWalk.{FloorIn, floor_early, floor_kept, floor_set, floor_wider, floor_join as floor_at_join}
use Rattle.yf_stream.proofs.BlankNotes.FloorsAt.{floor_late}
use Rattle.yf_stream.proofs.BlankNotes.NodeNotes.{NoteOver, Within}
use Rattle.yf_stream.proofs.BlankNotes.NotingLemmas.{floor_of}
use Rattle.yf_stream.proofs.Reader.PrefixLemmas.{prefix_functional}
use Rattle.yf_stream.proofs.Reader.StreamUpto.{followed}

-- an event that sets no floor
pub record Silent (e : EventInText) : Type 0 where
  pub kept : (f : ℕ) (p : EventInText) → floor_after_event f p e.event ≡ f

pub silent_floors : {i j : ℕ} {es : List EventInText} → Each Silent es → Each (FloorIn i j) es
silent_floors e = each_weaker (λ x s. floor_kept s.kept) e

pub silent_floor : {es : List EventInText} (f : ℕ) → Each Silent es → floor_of f es ≡ f
silent_floor f no_element = refl
silent_floor f (one_element {x = e} {xs = es} s r) = ap (λ z. floor_of z es) (s.kept f e) ∙ silent_floor f r

-- the floor after all events
pub floor_top : {i j : ℕ} {es : List EventInText} (f : ℕ) → f ≤ j → Each (FloorIn i j) es → floor_of f es ≤ j
floor_top f l no_element = l
floor_top {j = j} f l (one_element {x = e} {xs = es} (floor_kept k) r) = let same = k f e in floor_top (floor_after_event f e e.event) (omega (arith, same)) r
floor_top {j = j} f l (one_element {x = e} {xs = es} (floor_set s q k a b) r) =
    let same : floor_after_event f e e.event ≡ s.end = k f e ∙ ap (λ z. end_or f z) q in floor_top (floor_after_event f e e.event) (omega (arith, same)) r

-- the comments up to an offset, and their notes
pub record CommentsNotedTo (t : List ℕ) (k : ℕ) (es : List EventInText) (cs ns : List CommentValue) : Type 0 where
  pub noted : NotedComments t es cs ns
  pub within : Each (Within t 0 k) cs
  pub floors : Each (FloorIn 0 k) es

module _ {t : List ℕ} where
  comments_join : {es : List EventInText} {cs ds ns ms : List CommentValue} → NotedComments t es cs ns → NotedComments t es ds ms → NotedComments t es (cs ++ ds) (ns ++ ms)
  comments_join no_comment b = b
  comments_join (one_comment s a) b = one_comment s (comments_join a b)

  within_wider : {h i j k : ℕ} {cs : List CommentValue} → h ≤ i → j ≤ k → Each (Within t i j) cs → Each (Within t h k) cs
  within_wider l m e = each_weaker (λ c d. let a = d.after in let b = d.before in record { after = omega arith; before = omega arith; sign = d.sign }) e

  pub told_within : {i j : ℕ} {cs : List CommentValue} → Each (NotedComment t i j) cs → Each (Within t i j) cs
  told_within e = each_weaker (λ c d. record { after = d.after; before = d.before; sign = d.sign }) e

  -- events that end after the comments change no note
  notes_stay : {i k j : ℕ} {es zs : List EventInText} {cs ns : List CommentValue} → Each (Within t i k) cs → Each (FloorIn k j) zs → NotedComments t es cs ns
      → NotedComments t (es ++ zs) cs ns
  notes_stay no_element f no_comment = no_comment
  notes_stay {es = es} {zs = zs} (one_element {x = c} w r) f (one_comment {b = b} s n) =
      let before = w.before in
      let same : floor_at c.offset 0 (es ++ zs) ≡ floor_at c.offset 0 es =
      floor_at_join c.offset 0 es zs ∙ floor_early c.offset (floor_at c.offset 0 es) (omega arith) f in
      one_comment (subst (λ z. NotedSince t z c.offset b) (sym same) s) (notes_stay r f n)

  -- the notes of comments after all events
  pub notes_after : {k j s : ℕ} {es : List EventInText} {cs ns : List CommentValue} → Each (FloorIn 0 k) es → Each (Within t k j) cs
      → ((o : ℕ) (b : Bool) → k ≤ o → code t o ≡ 35 → FloorNote t s o b → NotedSince t (floor_of 0 es) o b) → SameButNotes t s cs ns → NotedComments t es cs ns
  notes_after f no_element g none_renoted = no_comment
  notes_after {es = es} f (one_element {x = c} w r) g (one_renoted b n m) =
      let after = w.after in
      let same : floor_at c.offset 0 es ≡ floor_of 0 es = floor_late c.offset 0 (omega arith) after f in
      one_comment (subst (λ z. NotedSince t z c.offset b) (sym same) (g c.offset b after w.sign n)) (notes_after f r g m)

  -- the notes of comments that have them
  notes_there : {k j : ℕ} {es : List EventInText} {cs : List CommentValue} → Each (FloorIn 0 k) es → Each (NotedComment t k j) cs → IsUtf8 t → Guard t (floor_of 0 es) k → NotedComments t es cs cs
  notes_there f no_element u g = no_comment
  notes_there {es = es} f (one_element {x = c} w r) u g =
      let after = w.after in
      let same : floor_at c.offset 0 es ≡ floor_of 0 es = floor_late c.offset 0 (omega arith) after f in
      one_comment (subst (λ z. NotedSince t z c.offset c.blank_before) (sym same) (since_guarded u g after w.note)) (notes_there f r u g)

  notes_in : {k at j : ℕ} {es zs : List EventInText} {cs : List CommentValue} → k ≤ at → Each (FloorIn 0 k) es → Each (Within t at j) cs → Each (NoteOver t (λ c. floor_of 0 es) zs) cs
      → NotedComments t (es ++ zs) cs cs
  notes_in l f no_element no_element = no_comment
  notes_in {es = es} {zs = zs} l f (one_element {x = c} w r) (one_element n m) =
      let after = w.after in
      let same : floor_at c.offset 0 (es ++ zs) ≡ floor_at c.offset (floor_of 0 es) zs =
      floor_at_join c.offset 0 es zs ∙ ap (λ z. floor_at c.offset z zs) (floor_late c.offset 0 (omega arith) (omega arith) f) in
      one_comment (subst (λ z. NotedSince t z c.offset c.blank_before) (sym same) n.note) (notes_in l f r m)

  -- steps
  pub noted_silent : {k : ℕ} {es zs : List EventInText} {cs ns : List CommentValue} → CommentsNotedTo t k es cs ns → Each Silent zs → CommentsNotedTo t k (es ++ zs) cs ns
  noted_silent {k} n s = record {
    noted = notes_stay {j = k} n.within (silent_floors s) n.noted;
    within = n.within;
    floors = each_join n.floors (silent_floors s);
  }

  pub noted_more : {k j : ℕ} {es : List EventInText} {cs ds ns ms : List CommentValue} → k ≤ j → CommentsNotedTo t k es cs ns → Each (Within t k j) ds → NotedComments t es ds ms
      → CommentsNotedTo t j es (cs ++ ds) (ns ++ ms)
  noted_more l n w m = record {
    noted = comments_join n.noted m;
    within = each_join (within_wider (omega arith) l n.within) (within_wider (omega arith) (omega arith) w);
    floors = floor_wider (omega arith) l n.floors;
  }

  pub noted_told : {k i j : ℕ} {es : List EventInText} {cs ds ns : List CommentValue} → IsUtf8 t → k ≤ i → i ≤ j → Guard t (floor_of 0 es) i → CommentsNotedTo t k es cs ns → Each (NotedComment t i j) ds
      → CommentsNotedTo t j es (cs ++ ds) (ns ++ ds)
  noted_told u l m g n d = record {
    noted = comments_join n.noted (notes_there (floor_wider (omega arith) l n.floors) d u g);
    within = each_join (within_wider (omega arith) (omega arith) n.within) (within_wider (omega arith) (omega arith) (told_within d));
    floors = floor_wider (omega arith) (omega arith) n.floors;
  }

  pub noted_node : {k at j : ℕ} {es zs : List EventInText} {cs ds ns : List CommentValue} → k ≤ at → at ≤ j → CommentsNotedTo t k es cs ns → Each (FloorIn at j) zs
      → Each (NoteOver t (λ c. floor_of 0 es) zs) ds → Each (Within t at j) ds → CommentsNotedTo t j (es ++ zs) (cs ++ ds) (ns ++ ds)
  noted_node {j = j} l m n f o w = record {
    noted = comments_join (notes_stay {j = j} n.within (floor_wider l (omega arith) f) n.noted) (notes_in l n.floors w o);
    within = each_join (within_wider (omega arith) (omega arith) n.within) (within_wider (omega arith) (omega arith) w);
    floors = each_join (floor_wider (omega arith) (omega arith) n.floors) (floor_wider (omega arith) (omega arith) f);
  }

  -- the lines between documents
  pub rows_within : {i j : ℕ} {cs : List CommentValue} → Chain (PrefixRow t) i j cs → Each (Within t i j) cs
  rows_within done = no_element
  rows_within (step (mark_row {i = i} e) c) = let l = next_later t i in within_wider (omega arith) (omega arith) (rows_within c)
  rows_within (step (line_row r) c) =
      let l = r.later in
      let f = chain_forward prefix_functional c in
      each_join (within_wider (omega arith) f (told_within (rest_told r.rest))) (within_wider (omega arith) (omega arith) (rows_within c))

-- the reader's floor, and the one that events set
pub data Since (t : List ℕ) (s f at : ℕ) : Type 0 where
  same_floor : s ≡ f → Since t s f at
  past_floor : s ≡ 0 → Guard t f at → Since t s f at

pub record CommentsRead (t : List ℕ) (cursor : StreamCursor) (x : Documents) (p : Parts) : Type 0 where
  pub comments : CommentsNotedTo t cursor.at p.part.events x.comments p.part.comments
  pub since : Since t cursor.floor (floor_of 0 p.part.events) cursor.at
  pub blank : cursor.floor < length t → Blank t cursor.floor
  pub bare : cursor.may_be_bare ≡ true → Guard t (floor_of 0 p.part.events) cursor.at

module _ {t : List ℕ} where
  since_later : {s f k j : ℕ} → k ≤ j → Since t s f k → Since t s f j
  since_later l (same_floor e) = same_floor e
  since_later l (past_floor e g) = past_floor e (guard_later l g)

  note_here : {s : ℕ} → (s < length t → Blank t s) → (o : ℕ) (b : Bool) → code t o ≡ 35 → FloorNote t s o b → NotedSince t s o b
  note_here {s} bl o b q n = n.since (λ m. absurd (omega arith)) (λ m. let there = within_from_code t o (omega arith) in bl (omega arith))

  since_there : {s f k : ℕ} → IsUtf8 t → Since t s f k → (s < length t → Blank t s) → (o : ℕ) (b : Bool) → k ≤ o → code t o ≡ 35 → FloorNote t s o b → NotedSince t f o b
  since_there u (same_floor e) bl o b l q n = subst (λ z. NotedSince t z o b) e (note_here bl o b q n)
  since_there u (past_floor e g) bl o b l q n = since_guarded u g l (subst (λ z. NotedSince t z o b) e (note_here bl o b q n))

  -- comment lines and byte order marks after the text that has been read
  pub comments_past_prefix : {cursor s : StreamCursor} {x : Documents} {a b : Parts} → IsUtf8 t → s ≡ record cursor { at = s.at }
      → (r : PrefixRead t cursor.floor cursor.at s.at a.part.comments b.part.comments) → b.part.events ≡ a.part.events → CommentsRead t cursor x a
      → CommentsRead t s (followed x (only_comments r.upto.comments)) b
  unfolding followed
  comments_past_prefix {cursor} {s} {x} {a} {b} u e r same n =
      let floor : s.floor ≡ cursor.floor = ap (λ z. z.floor) e in
      let bare : s.may_be_bare ≡ cursor.may_be_bare = ap (λ z. z.may_be_bare) e in
      let forward = chain_forward prefix_functional r.upto.rows in
      let kept = r.upto.kept in
      let rows = rows_within r.upto.rows in
      let notes = notes_after n.comments.floors rows (since_there u n.since n.blank) kept.renoted in
      record {
        comments = subst (λ z. CommentsNotedTo t s.at z (x.comments ++ r.upto.comments) b.part.comments) (sym same)
            (subst (λ z. CommentsNotedTo t s.at a.part.events (x.comments ++ r.upto.comments) z) (sym kept.list) (noted_more forward n.comments rows notes));
        since = subst (λ z. Since t z (floor_of 0 b.part.events) s.at) (sym floor)
            (subst (λ z. Since t cursor.floor (floor_of 0 z) s.at) (sym same) (since_later forward n.since));
        blank = subst (λ z. z < length t → Blank t z) (sym floor) n.blank;
        bare = λ q. subst (λ z. Guard t (floor_of 0 z) s.at) (sym same) (guard_later forward (n.bare (sym bare ∙ q)));
      }
