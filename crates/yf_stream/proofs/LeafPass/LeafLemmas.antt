-- Which comments are on the lines of leaves: the line of an offset among all lines, and the last leaf before it.
use Rattle.std.proofs.Common.{◌≡◌, ◌≢◌, ℕ, zero, suc, ◌+◌, ◌-◌, ◌<◌, ◌≤◌, Bool, true, false, ◌&&◌, ◌||◌, nat_lt, nat_le, ◌⊎◌, inl, inr, ⊎_elim, List, [], ◌∷◌, ◌++◌, drop, length, map, Option, Some, None, refl, sym, ap, ◌∙◌, subst, arith, true≢false, slice_get, if◌then◌else◌, append-nil, append_assoc, length-append, option_map}
use Rattle.std.proofs.Math.ListN.{drop_of_length-le}
use Rattle.std.proofs.lemmas.Bool.{cases_lt}
use Rattle.std.proofs.lemmas.Bool.Decides.{nat_tests}
use Rattle.std.proofs.lemmas.Option.{get_or_from_slice_get, same_Some, slice_get-map, slice_get_within}
use Rattle.std.specs.List.{list_any}
use Rattle.yf_chars.specs.Chain.{Chain}
use Rattle.yf_chars.specs.Chain.Chain.{done, step}
use Rattle.yf_chars.specs.Class.{is_break_char}
use Rattle.yf_chars.specs.Text.{code}
use Rattle.yf_chars.proofs.TextLemmas.{within_from_code}
use Rattle.yf_lines.specs.Basic.{Break}
use Rattle.yf_lines.specs.Basic.Break.{cr_lf, lone_cr, lone_lf}
use Rattle.yf_lines.specs.Lines.{AreLines, IsLine, LineEnd, OneLine, NoBreakIn, at_break, at_end, one_line}
use Rattle.yf_lines.specs.declared.line.Line.{Line}
use Rattle.yf_lines.proofs.BasicLemmas.{break_end, break_forward, break_unique}
use Rattle.yf_lines.proofs.LineLemmas.{break_breaks, break_within, cr_breaks, lf_breaks}
use Rattle.yf_comments.specs.Comment.{CommentValue}
use Rattle.yf_events.specs.Event.{EventInText}
use Rattle.yf_events.specs.Reading.{begins_leaf, first_begins_leaf}
use Rattle.yf_events.specs.declared.event.Span.{Span}
use Rattle.yf_stream.specs.LeafPass.{BeginInOrder, BeginsLine, CommentsInOrder, NextLine, NoBreakFrom, AreInOrder, IsInLine, StopsAt, at_text_end, begins, after_break, comment_is_at, end_on_line, last_end, leaf_spans, no_events, no_place, none_left, span_in, stops}
use Rattle.yf_stream.specs.ReadingOf.{is_on_line}
use Rattle.yf_stream.proofs.TagPass.PassLemmas.{at_index}

-- The line of an offset.

-- a # is before the break of its line
sign_before_end : {t : List ℕ} {a b o : ℕ} → LineEnd t a b → o < b → code t o ≡ 35 → o < a
sign_before_end {t} {a} {o = o} (at_break (cr_lf e f)) l s =
    ⊎_elim (λ (p : o < a). p)
    (λ (p : a ≤ o). ⊎_elim (λ (q : a < o). let r : o ≡ a + 1 = omega arith in let v : code t o ≡ 10 = ap (code t) r ∙ f in absurd (omega arith))
    (λ (q : o ≤ a). let r : o ≡ a = omega arith in let v : code t o ≡ 13 = ap (code t) r ∙ e in absurd (omega arith)) (cases_lt a o))
    (cases_lt o a)
sign_before_end {t} {a} {o = o} (at_break (lone_cr e f)) l s =
    ⊎_elim (λ (p : o < a). p) (λ (p : a ≤ o). let r : o ≡ a = omega arith in let v : code t o ≡ 13 = ap (code t) r ∙ e in absurd (omega arith)) (cases_lt o a)
sign_before_end {t} {a} {o = o} (at_break (lone_lf e f)) l s =
    ⊎_elim (λ (p : o < a). p) (λ (p : a ≤ o). let r : o ≡ a = omega arith in let v : code t o ≡ 10 = ap (code t) r ∙ e in absurd (omega arith)) (cases_lt o a)
sign_before_end (at_end e) l s = l

module _ {t : List ℕ} where
  not_broken : {i j h : ℕ} {A : Type 0} → NoBreakIn t i j → i ≤ h → h < j → is_break_char (code t h) ≡ true → A
  not_broken {h = h} u l m e = absurd (true≢false (sym e ∙ u.none h l m))

  last_breaks : {h j : ℕ} → Break t h j → is_break_char (code t (j - 1)) ≡ true
  last_breaks {j = j} b =
      ⊎_elim (λ (e : code t (j - 1) ≡ 10). lf_breaks t (j - 1) e) (λ (e : (code t (j - 1) ≡ 13) × (code t j ≢ 10)). cr_breaks t (j - 1) e.0) (break_end b)

  -- a line that holds the offset has the start and the end that were found
  start_there : {l : Line} {o i : ℕ} → IsLine t l → ((l.start ≡ 0) ⊎ ((h : ℕ) × Break t h l.start)) → l.start ≤ o → o < l.end → BeginsLine t o i → l.start ≡ i
  start_there {l} {o} {i} q s a b g =
      ⊎_elim
      (λ (p : i < l.start).
      ⊎_elim (λ (e : l.start ≡ 0). absurd (omega arith)) (λ (e : (h : ℕ) × Break t h l.start). absurd (g.last e.0 l.start p a e.1)) s)
      (λ (p : l.start ≤ i).
      ⊎_elim
      (λ (r : l.start < i).
      let order = g.order in
      ⊎_elim (λ (e : i ≡ 0). absurd (omega arith))
      (λ (e : (h : ℕ) × Break t h i). not_broken q.unbroken (omega arith) (omega arith) (last_breaks e.1)) g.begins)
      (λ (r : i ≤ l.start). omega arith)
      (cases_lt l.start i))
      (cases_lt i l.start)

  next_at_break : {a b o m n : ℕ} → Break t a b → o ≤ m → o < a → NoBreakIn t o m → NextLine t m n → NoBreakIn t o a → n ≡ b
  next_at_break {a} {b} {o} {m} {n} k l p u (after_break {h = h} v none c) w =
      ⊎_elim (λ (r : h < a). not_broken w (omega arith) r (break_breaks c))
      (λ (r : a ≤ h).
      ⊎_elim (λ (s : a < m). not_broken u (omega arith) s (break_breaks k))
      (λ (s : m ≤ a).
      ⊎_elim (λ (x : a < h). absurd (none.none a b s x k))
      (λ (x : h ≤ a). let same : h ≡ a = omega arith in break_unique (subst (λ z. Break t z n) same c) k)
      (cases_lt a h))
      (cases_lt a m))
      (cases_lt h a)
  next_at_break {a} {b} {o} {m} k l p u (at_text_end none) w =
      let within = break_within k in
      let forward = break_forward k in
      ⊎_elim (λ (s : a < m). not_broken u (omega arith) s (break_breaks k)) (λ (s : m ≤ a). absurd (none.none a b s (omega arith) k)) (cases_lt a m)

  next_at_end : {o m n : ℕ} → o ≤ m → NextLine t m n → NoBreakIn t o (length t) → n ≡ length t
  next_at_end {o} {m} l (after_break {h = h} v none c) w =
      let within = break_within c in let forward = break_forward c in not_broken w (omega arith) (omega arith) (break_breaks c)
  next_at_end l (at_text_end none) w = refl

  part_of : {i j k : ℕ} → i ≤ j → j ≤ k → NoBreakIn t i k → NoBreakIn t j k
  part_of l m u = record { order = m; none = λ h a b. u.none h (omega arith) b }

  next_there : {a b i o m n : ℕ} → LineEnd t a b → NoBreakIn t i a → i ≤ o → o < a → o ≤ m → NoBreakIn t o m → NextLine t m n → n ≡ b
  next_there (at_break k) w l p r u x = next_at_break k r p u x (part_of l (omega arith) w)
  next_there {o = o} {n = n} (at_end e) w l p r u x = next_at_end r x (subst (λ z. NoBreakIn t o z) e (part_of l (omega arith) w)) ∙ sym e

-- tests
module _ (end o : ℕ) where
  not_there : (l : Line) → o < l.start → is_on_line end o l ≡ false
  not_there l p = grind (arith, nat_tests)

  passed_line : (l : Line) → l.next ≤ o → is_on_line end o l ≡ false
  passed_line l p = grind (arith, nat_tests)

  on_this : (l : Line) → l.start ≤ o → o < l.next → is_on_line end o l ≡ (nat_lt l.start end && nat_le end l.next)
  on_this l p q = grind (arith, nat_tests)

or_none : (a b : Bool) → b ≡ false → (a || b) ≡ a
or_none true b e = refl
or_none false b e = e

or_other : (a b : Bool) → a ≡ false → (a || b) ≡ b
or_other true b e = absurd (true≢false e)
or_other false b e = refl

module _ {t : List ℕ} (end o : ℕ) where
  none_later : {i j : ℕ} {ls : List Line} → o < i → Chain (OneLine t) i j ls → list_any (is_on_line end o) ls ≡ false
  none_later p done = refl
  none_later p (step {y = ls} (one_line {l = l} q) c) =
      let order = q.order in or_other (is_on_line end o l) (list_any (is_on_line end o) ls) (not_there end o l p) ∙ none_later (omega arith) c

  begun : {a b : ℕ} → LineEnd t a b → b < length t → (b ≡ 0) ⊎ ((h : ℕ) × Break t h b)
  begun {a} (at_break k) l = inr (a, k)
  begun (at_end e) l = absurd (omega arith)

  line_found : {i j s m n : ℕ} {ls : List Line} → Chain (OneLine t) i j ls → j ≡ length t → i ≤ o → o < j → ((i ≡ 0) ⊎ ((h : ℕ) × Break t h i)) → code t o ≡ 35
      → BeginsLine t o s → o ≤ m → NoBreakIn t o m → NextLine t m n → list_any (is_on_line end o) ls ≡ (nat_lt s end && nat_le end n)
  line_found done e a b g c p l u x = absurd (omega arith)
  line_found {s = s} {n = n} (step {y = ls} (one_line {l = l} q) k) e a b g c p r u x =
      ⊎_elim
      (λ (here : o < l.next).
      let before = sign_before_end q.ends here c in
      let first = start_there q g a before p in
      let last = next_there q.ends q.unbroken a before r u x in
      or_none (is_on_line end o l) (list_any (is_on_line end o) ls) (none_later here k) ∙ on_this end o l a here
      ∙ ap (λ z. nat_lt z end && nat_le end l.next) first ∙ ap (λ z. nat_lt s end && nat_le end z) (sym last))
      (λ (later : l.next ≤ o).
      or_other (is_on_line end o l) (list_any (is_on_line end o) ls) (passed_line end o l later)
      ∙ line_found k e later b (begun q.ends (omega arith)) c p r u x)
      (cases_lt o l.next)

-- whether an end is on the line of a comment
pub on_line_found : {t : List ℕ} {ls : List Line} {c : CommentValue} {s m n : ℕ} (end : ℕ) → AreLines t ls → IsInLine t c → BeginsLine t c.offset s → c.offset ≤ m
    → m ≤ c.offset + length c.text → NextLine t m n → end_on_line ls (Some end) c.offset ≡ (nat_lt s end && nat_le end n)
on_line_found {t} {c = c} {m = m} end a d p l k x =
    let within = within_from_code t c.offset (let e = d.sign in omega arith) in
    line_found end c.offset a refl (omega arith) within (inl refl) d.sign p l (record { order = l; none = λ h v w. d.unbroken.none h v (omega arith) }) x

-- The last leaf before an offset.

pub record EventAt (es : List EventInText) (i : ℕ) (o : Option Span) : Type 0 where
  pub event : EventInText
  pub here : drop i es ≡ event ∷ drop (i + 1) es
  pub span : event.span ≡ o

pub event_at : (es : List EventInText) (i : ℕ) {o : Option Span} → slice_get (map (λ (e : EventInText). e.span) es) i ≡ Some o → EventAt es i o
event_at es i {o} f = go (slice_get es i) refl (sym (slice_get-map (λ (e : EventInText). e.span) es i) ∙ f) where
  go : (q : Option EventInText) → slice_get es i ≡ q → option_map (λ (e : EventInText). e.span) q ≡ Some o → EventAt es i o
  go None e g = absurd cc
  go (Some x) e g = record { event = x; here = at_index es i e; span = let same : x.span ≡ o = cc in same }

pub past_nothing : (es : List EventInText) (i : ℕ) (found : Option ℕ) (o : ℕ) → slice_get (map (λ (e : EventInText). e.span) es) i ≡ Some None
    → last_end found o (leaf_spans (drop i es)) ≡ last_end found o (leaf_spans (drop (i + 1) es))
past_nothing es i found o f =
    let a = event_at es i f in
    let rest = drop (i + 1) es in
    ap (λ z. last_end found o (leaf_spans z)) a.here
    ∙ ap (λ z. last_end found o (span_in (begins_leaf a.event.event rest) z ++ leaf_spans rest)) a.span ∙ none_in (begins_leaf a.event.event rest) rest
  where
    none_in : (b : Bool) (rest : List EventInText) → last_end found o (span_in b None ++ leaf_spans rest) ≡ last_end found o (leaf_spans rest)
    none_in true rest = refl
    none_in false rest = refl

pub past_span : (es : List EventInText) (i : ℕ) (found : Option ℕ) (offset o : ℕ) {s : Span} → slice_get (map (λ (e : EventInText). e.span) es) i ≡ Some (Some s) → s.start < offset
    → offset ≤ o → last_end found o (leaf_spans (drop i es))
    ≡ last_end (if first_begins_leaf (drop i es) then Some s.end else found) o (leaf_spans (drop (i + 1) es))
past_span es i found offset o {s} f l m =
    let a = event_at es i f in
    let rest = drop (i + 1) es in
    ap (λ z. last_end found o (leaf_spans z)) a.here
    ∙ ap (λ z. last_end found o (span_in (begins_leaf a.event.event rest) z ++ leaf_spans rest)) a.span ∙ one_in (begins_leaf a.event.event rest) rest
    ∙ ap (λ z. last_end (if first_begins_leaf z then Some s.end else found) o (leaf_spans rest)) (sym a.here)
  where
    before : nat_lt s.start o ≡ true
    before = grind (arith, nat_tests)

    one_in : (b : Bool) (rest : List EventInText) → last_end found o (span_in b (Some s) ++ leaf_spans rest) ≡ last_end (if b then Some s.end else found) o (leaf_spans rest)
    one_in true rest = ap (λ z. last_end (if z then Some s.end else found) o (leaf_spans rest)) before
    one_in false rest = refl

pub stops_here : (es : List EventInText) (i offset : ℕ) {s : Span} → slice_get (map (λ (e : EventInText). e.span) es) i ≡ Some (Some s) → offset ≤ s.start → StopsAt offset (drop i es)
stops_here es i offset {s} f l = let a = event_at es i f in subst (λ z. StopsAt offset z) (sym a.here) (stops s a.span l)

pub stops_at_end : (es : List EventInText) (i offset : ℕ) → length es ≤ i → StopsAt offset (drop i es)
stops_at_end es i offset l = subst (λ z. StopsAt offset z) (sym (drop_of_length-le es l)) none_left

-- if the events begin in order from the offset on, none of them begins before it
none_left_before : {i : ℕ} {es : List EventInText} (found : Option ℕ) (o : ℕ) → o ≤ i → BeginInOrder i es → last_end found o (leaf_spans es) ≡ found
none_left_before found o l no_events = refl
none_left_before found o l (no_place {e = e} {es = es} n b) =
    ap (λ z. last_end found o (span_in (begins_leaf e.event es) z ++ leaf_spans es)) n ∙ go (begins_leaf e.event es) (none_left_before found o l b) where
      go : (c : Bool) → last_end found o (leaf_spans es) ≡ found → last_end found o (span_in c None ++ leaf_spans es) ≡ found
      go true p = p
      go false p = p
none_left_before found o l (begins {e = e} {es = es} s n m b) =
    ap (λ z. last_end found o (span_in (begins_leaf e.event es) z ++ leaf_spans es)) n ∙ go (begins_leaf e.event es) (none_left_before found o (omega arith) b) where
      later : nat_lt s.start o ≡ false
      later = grind (arith, nat_tests)

      go : (c : Bool) → last_end found o (leaf_spans es) ≡ found → last_end found o (span_in c (Some s) ++ leaf_spans es) ≡ found
      go true p = ap (λ z. last_end (if z then Some s.end else found) o (leaf_spans es)) later ∙ p
      go false p = p

pub sooner : {i j : ℕ} {es : List EventInText} → i ≤ j → BeginInOrder j es → BeginInOrder i es
sooner l no_events = no_events
sooner l (no_place n b) = no_place n (sooner l b)
sooner l (begins s n m b) = begins s n (omega arith) b

dropped : {i : ℕ} {es : List EventInText} (k : ℕ) → BeginInOrder i es → BeginInOrder i (drop k es)
dropped zero b = b
dropped (suc k) no_events = no_events
dropped (suc k) (no_place n b) = dropped k b
dropped (suc k) (begins s n m b) = dropped k (sooner m b)

none_from : {i : ℕ} {es : List EventInText} (found : Option ℕ) (o : ℕ) → StopsAt o es → BeginInOrder i es → last_end found o (leaf_spans es) ≡ found
none_from found o none_left b = refl
none_from found o (stops s e l) (no_place n b) = absurd (let p : None ≡ Some s = sym n ∙ e in cc)
none_from found o (stops {e = x} {es = es} s e l) (begins r n m b) =
    let same = same_Some _ _ (sym e ∙ n) in none_left_before found o l (begins {e = x} s e (omega arith) (subst (λ (z : Span). BeginInOrder z.start es) (sym same) b))

-- The notes of the comments so far.
pub record NotedSoFar (t : List ℕ) (es : List EventInText) (cs : List CommentValue) (i : ℕ) (found : Option ℕ) (notes : List Bool) : Type 0 where
  pub within : length notes ≤ length cs
  pub offset : ℕ
  pub last : CommentsInOrder 0 cs → CommentsInOrder offset (drop (length notes) cs)
  pub passed : CommentsInOrder 0 cs → (o : ℕ) → offset ≤ o → last_end None o (leaf_spans es) ≡ last_end found o (leaf_spans (drop i es))
  pub noted : (ls : List Line) → AreLines t ls → AreInOrder t es cs
      → notes ++ map (λ (c : CommentValue). end_on_line ls (last_end None c.offset (leaf_spans es)) c.offset) (drop (length notes) cs)
      ≡ map (λ (c : CommentValue). end_on_line ls (last_end None c.offset (leaf_spans es)) c.offset) cs

pub noted_nothing : (t : List ℕ) (es : List EventInText) (cs : List CommentValue) {notes : List Bool} → notes ≡ [] → NotedSoFar t es cs 0 None notes
noted_nothing t es cs e =
    subst (λ z. NotedSoFar t es cs 0 None z) (sym e)
    (record { within = omega arith; offset = 0; last = λ c. c; passed = λ c o l. refl; noted = λ ls a s. refl })

record CommentNext (i : ℕ) (c : CommentValue) (cs : List CommentValue) : Type 0 where
  later : i ≤ c.offset
  rest : CommentsInOrder c.offset cs

comment_next : {i : ℕ} {c : CommentValue} {cs : List CommentValue} → CommentsInOrder i (c ∷ cs) → CommentNext i c cs
comment_next (comment_is_at l r) = record { later = l; rest = r }

pub noted_on : {t : List ℕ} {es : List EventInText} {cs : List CommentValue} {i j : ℕ} {found more : Option ℕ} {notes all : List Bool} {c : CommentValue} {b : Bool}
    → NotedSoFar t es cs i found notes → slice_get cs (length notes) ≡ Some c
    → ((o : ℕ) → c.offset ≤ o → last_end found o (leaf_spans (drop i es)) ≡ last_end more o (leaf_spans (drop j es))) → StopsAt c.offset (drop j es)
    → ((ls : List Line) → AreLines t ls → IsInLine t c → b ≡ end_on_line ls more c.offset) → all ≡ notes ++ b ∷ [] → NotedSoFar t es cs j more all
noted_on {t} {es} {cs} {i} {j} {found} {more} {notes} {all} {c} {b} p f past stop note e = record {
  within = let w = slice_get_within cs (length notes) c f in omega (arith, w, count);
  offset = c.offset;
  last = λ o. let n = next o in subst (λ z. CommentsInOrder c.offset (drop z cs)) (sym count) n.rest;
  passed = λ o k l. let n = next o in p.passed o k (let m = n.later in omega arith) ∙ past k l;
  noted = λ ls a s.
      let n = next s.comments in
      let value : last_end None c.offset (leaf_spans es) ≡ more =
      p.passed s.comments c.offset n.later ∙ past c.offset (omega arith) ∙ none_from more c.offset stop (dropped j s.events) in
      let is_there : IsInLine t c =
      subst (λ z. IsInLine t z) (get_or_from_slice_get cs (length notes) c c f) (s.texts (length notes) c (slice_get_within cs (length notes) c f)) in
      let own : b ≡ end_on_line ls (last_end None c.offset (leaf_spans es)) c.offset = note ls a is_there ∙ ap (λ z. end_on_line ls z c.offset) (sym value) in
      let g = λ (c : CommentValue). end_on_line ls (last_end None c.offset (leaf_spans es)) c.offset in
      ap (λ z. z ++ map g (drop (length all) cs)) e ∙ append_assoc notes (b ∷ []) (map g (drop (length all) cs))
      ∙ ap (λ z. notes ++ (z ∷ map g (drop (length all) cs))) own
      ∙ ap (λ z. notes ++ (g c ∷ map g (drop z cs))) count
      ∙ ap (λ z. notes ++ map g z) (sym here)
      ∙ p.noted ls a s;
}
  where
    here : drop (length notes) cs ≡ c ∷ drop (length notes + 1) cs
    here = at_index cs (length notes) f

    count : length all ≡ length notes + 1
    count = ap length e ∙ length-append notes (b ∷ [])

    next : CommentsInOrder 0 cs → CommentNext p.offset c (drop (length notes + 1) cs)
    next o = comment_next (subst (λ z. CommentsInOrder p.offset z) here (p.last o))

pub all_noted : {t : List ℕ} {es : List EventInText} {cs : List CommentValue} {i : ℕ} {found : Option ℕ} {notes : List Bool} → NotedSoFar t es cs i found notes
    → length cs ≤ length notes → (ls : List Line) → AreLines t ls → AreInOrder t es cs
    → notes ≡ map (λ (c : CommentValue). end_on_line ls (last_end None c.offset (leaf_spans es)) c.offset) cs
all_noted {es = es} {cs = cs} {notes = notes} p l ls a s =
    sym (append-nil notes)
    ∙ ap (λ z. notes ++ map (λ (c : CommentValue). end_on_line ls (last_end None c.offset (leaf_spans es)) c.offset) z) (sym (drop_of_length-le cs l))
    ∙ p.noted ls a s

-- no break begins up to the end of the text
pub next_line_at_end : {t : List ℕ} {i j m n : ℕ} → NoBreakFrom t i j → m ≡ length t → m ≤ j → n ≡ length t → NextLine t i n
next_line_at_end {t} {i} b e l f =
    subst (λ z. NextLine t i z) (sym f) (at_text_end (record { none = λ h k p q c. b.none h k p (omega arith) c }))

-- whether an end is on the line of a comment, from the start of that line
pub ends_after_start : {t : List ℕ} {ls : List Line} {c : CommentValue} {s m n : ℕ} (end : ℕ) {o : Option ℕ} → o ≡ Some end → AreLines t ls → IsInLine t c → BeginsLine t c.offset s
    → c.offset ≤ m → m ≤ c.offset + length c.text → NextLine t m n → s < end → nat_le end n ≡ end_on_line ls o c.offset
ends_after_start {ls = ls} {c} {s} {m} {n} end e a d p l k x q =
    sym (ap (λ z. end_on_line ls z c.offset) e ∙ on_line_found end a d p l k x ∙ ap (λ z. z && nat_le end n) (lt_test s end q)) where
      lt_test : (i j : ℕ) → i < j → nat_lt i j ≡ true
      lt_test i j l = grind (arith, nat_tests)

pub ends_before_start : {t : List ℕ} {ls : List Line} {c : CommentValue} {s m n : ℕ} (end : ℕ) {o : Option ℕ} → o ≡ Some end → AreLines t ls → IsInLine t c → BeginsLine t c.offset s
    → c.offset ≤ m → m ≤ c.offset + length c.text → NextLine t m n → end ≤ s → false ≡ end_on_line ls o c.offset
ends_before_start {ls = ls} {c} {s} {m} {n} end e a d p l k x q =
    sym (ap (λ z. end_on_line ls z c.offset) e ∙ on_line_found end a d p l k x ∙ ap (λ z. z && nat_le end n) (lt_test s end q)) where
      lt_test : (i j : ℕ) → j ≤ i → nat_lt i j ≡ false
      lt_test i j l = grind (arith, nat_tests)
