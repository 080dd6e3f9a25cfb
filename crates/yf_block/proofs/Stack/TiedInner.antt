-- A node awaited after an indicator: the line ends there, white space is before the node, or nothing is.
use Rattle.std.proofs.Common.{◌≡◌, ◌≢◌, ℕ, zero, suc, ◌+◌, ◌-◌, ◌<◌, ◌≤◌, ℤ, pos, ◌≤ℤ◌, Bool, true, false, List, Option, Some, refl, sym, subst, arith, true≢false, ◌⊎◌, inl, inr, ⊎_elim}
use Rattle.std.proofs.lemmas.Bool.{cases_lt, cases_eq, cases_Bool}
use Rattle.std.proofs.lemmas.Int.{ints}
use Rattle.yf_chars.specs.Text.{code}
use Rattle.yf_chars.specs.Class.{is_white}
use Rattle.yf_chars.specs.Chain.{Stuck, Many}
use Rattle.yf_chars.specs.Chain.Chain.{done}
use Rattle.yf_lines.specs.Basic.{Spaces}
use Rattle.yf_lines.specs.Basic.SeparateInLine.{by_whites}
use Rattle.yf_lines.specs.Basic.Break.{cr_lf, lone_cr, lone_lf}
use Rattle.yf_lines.proofs.BasicLemmas.{break_char, white_cases}
use Rattle.yf_comments.specs.Comments.{BreakOrEnd, LineEnd}
use Rattle.yf_comments.specs.Comments.BreakOrEnd.{by_break, by_end}
use Rattle.yf_comments.specs.Comments.LineEnd.{past_rest}
use Rattle.yf_comments.specs.Comments.LineRest.{whites}
use Rattle.yf_comments.proofs.LineEndLemmas.{line_end_stuck}
use Rattle.yf_comments.proofs.RowLemmas.{stuck_at_solid, stuck_alone, no_separation}
use Rattle.yf_events.specs.declared.part.Part.{Part}
use Rattle.yf_grammar.specs.BlockReader.BlockParser.{Columns, Compact, compact_columns, no_columns, BlockTask}
use Rattle.yf_grammar.specs.BlockReader.BlockParser.Whole.{awaited_inline, awaited_missed}
use Rattle.yf_grammar.specs.BlockReader.Halts.Halts.{halts_inline, halts_missed}
use Rattle.yf_grammar.proofs.BlockStack.BlockNodeSteps.{node_through}
use Rattle.yf_grammar.proofs.BlockStack.BlockStepNodes.{below_awaits, below_halts, inline_awaits, inline_halts}
use Rattle.yf_block.specs.declared.frame.Frame.{Frame}
use Rattle.yf_block.specs.declared.frame.BlockCursor.{BlockCursor}
use Rattle.yf_block.specs.BlockStepTied.{AtNode, AtFailed}
use Rattle.yf_block.specs.ColumnsTied.{same_columns}
use Rattle.yf_block.specs.InlineTied.{AtStart, ColumnTied}
use Rattle.yf_block.specs.LineTied.{AtBelow}
use Rattle.yf_block.specs.LookTests.{LineEndsAt, text_stops, feed_is_at, return_is_at, hash_is_at}
use Rattle.yf_block.proofs.Ends.EntryLineLemmas.{no_end_here, last_white}
use Rattle.yf_block.proofs.Ends.HashNodes.{hash_whole, hash_halts}
use Rattle.yf_block.proofs.Stack.TiedColumns.{compact_yes, compact_never}
use Rattle.yf_block.proofs.Stack.TiedFailed.{broken_fails}
use Rattle.yf_block.proofs.Stack.TiedOpenings.{node_missing}

-- the spaces are there, or not
spaces_or_not : (t : List ℕ) (i k : ℕ) → Spaces t i k ⊎ (Spaces t i k → ⊥)
spaces_or_not t i zero = inl (record { each = λ m l. omega (arith, l) })
spaces_or_not t i (suc k) = ⊎_elim
    (λ (s : Spaces t i k). ⊎_elim
    (λ (e : code t (i + k) ≡ 32). inl (record {
      each = λ m l. ⊎_elim (λ (b : m < k). s.each m b) (λ (b : k ≤ m). let same : k ≡ m = omega (arith, l, b) in subst (λ (z : ℕ). code t (i + z) ≡ 32) same e) (cases_lt m k);
    }))
    (λ (e : code t (i + k) ≢ 32). inr (λ z. e (z.each k (omega arith))))
    (cases_eq (code t (i + k)) 32))
    (λ (n : Spaces t i k → ⊥). inr (λ z. n (record { each = λ m l. z.each m (omega (arith, l)) })))
    (spaces_or_not t i k)

white_no_return : (c : ℕ) → is_white c ≡ true → c ≡ 13 → ⊥
white_no_return c w e = ⊎_elim (λ (z : c ≡ 32). omega (arith, z, e)) (λ (z : c ≡ 9). omega (arith, z, e)) (white_cases c w)

-- a column at which a collection may begin
pub record CompactColumn (b : Bool) (n : ℤ) (i p m : ℕ) : Type 0 where
  pub compact : b ≡ true
  pub deep : n ≤ℤ pos m
  pub before : ℕ
  pub is : n ≡ pos before
  pub sum : m + i ≡ before + 1 + p

pub compact_column_is : {t : List ℕ} {b : Bool} {n : ℤ} {i p m : ℕ} {cols : Columns} → Compact t b n i p cols → cols.sequence ≡ Some m → CompactColumn b n i p m
compact_column_is {m = m} (compact_columns {m = k} {i = i} {l = l} s) e = record { compact = refl; deep = let f = same e in omega (arith, ints, f); before = k; is = refl; sum = let f = same e in omega (arith, f) } where
  same : Some (k + 1 + l) ≡ Some m → m ≡ k + 1 + l
  same q = cc
compact_column_is {m = m} (no_columns f) e = absurd (cc)

module _ {t : List ℕ} {d : ℕ} {root : BlockTask} {before : Part} {frames : List Frame} {p place : ℕ} {progress : BlockCursor} {part : Part} (a : AtNode t d root before frames p progress part)
    {w : List ℕ} (run : Many t is_white p place w) (no_white : is_white (code t place) ≡ false) where
  -- no node begins there
  nothing_inside : place ≡ p → Stuck (LineEnd t p) → AtFailed t d root progress
  nothing_inside e s =
      let z : is_white (code t p) ≡ false = subst (λ (k : ℕ). is_white (code t k) ≡ false) e no_white in
      broken_fails (node_missing a.node (awaited_missed s z) (halts_missed s z)) a.stack.halted

  pub nothing_there : place ≡ p → ((LineEndsAt t false place) → ⊥) → AtFailed t d root progress
  nothing_there e n = nothing_inside e (line_end_stuck a.inside (stuck_alone (λ h s. no_separation here a.inside s) (record { none = λ j b. no_end (subst (λ (k : ℕ). BreakOrEnd t k j) (sym e) b) }))) where
    here : is_white (code t p) ≡ false
    here = subst (λ (k : ℕ). is_white (code t k) ≡ false) e no_white

    no_end : {j : ℕ} → BreakOrEnd t place j → ⊥
    no_end (by_break b) = ⊎_elim (λ c. n (return_is_at c)) (λ c. n (feed_is_at c)) (break_char b)
    no_end (by_end c) = n (text_stops c)

  -- a comment that no break ends is after white space
  comment_inside : p < place → code t place ≡ 35 → Stuck (LineEnd t p) → AtFailed t d root progress
  comment_inside l h s = go (cases_Bool progress.wanted.compact) where
    with_columns : {cols : Columns} → Compact t progress.wanted.compact a.indentation p place cols → AtFailed t d root progress
    with_columns k = broken_fails (node_missing a.node (awaited_inline s run l no_white k (hash_whole h)) (halts_inline s run l no_white k (hash_halts h a.read.text.utf8))) a.stack.halted

    go : (progress.wanted.compact ≡ true) ⊎ (progress.wanted.compact ≡ false) → AtFailed t d root progress
    go c = ⊎_elim
        (λ (q : progress.wanted.compact ≡ true). ⊎_elim
        (λ (y : Spaces t p (place - p)). with_columns (compact_yes a.wanted.least (omega (arith, l)) q a.shallow refl y refl))
        (λ (y : Spaces t p (place - p) → ⊥). with_columns (no_columns (λ z v. y v)))
        (spaces_or_not t p (place - p)))
        (λ (q : progress.wanted.compact ≡ false). with_columns (compact_never q)) c

  inside_ends : {b : Bool} → p < place → LineEndsAt t b place → Stuck (LineEnd t p) → AtFailed t d root progress
  inside_ends l (text_stops e) s = absurd (s.none place _ (past_rest (whites (by_whites run l) (by_end e)) done))
  inside_ends l (feed_is_at e) s =
      absurd (s.none (place + 1) _ (past_rest (whites (by_whites run l) (by_break (lone_lf e (λ c. white_no_return (code t (place - 1)) (last_white run l) c)))) done))
  inside_ends l (return_is_at e) s = ⊎_elim
      (λ (f : code t (place + 1) ≡ 10). absurd (s.none (place + 2) _ (past_rest (whites (by_whites run l) (by_break (cr_lf e f))) done)))
      (λ (f : code t (place + 1) ≢ 10). absurd (s.none (place + 1) _ (past_rest (whites (by_whites run l) (by_break (lone_cr e f))) done)))
      (cases_eq (code t (place + 1)) 10)
  inside_ends l (hash_is_at c e) s = comment_inside l e s

  -- the line ends there
  pub line_ends_there : {b : Bool} → p ≤ place → LineEndsAt t b place → AtBelow t d root before frames p progress part
  line_ends_there {b} o e = record {
    layers = a.layers;
    room = a.room;
    comments = a.comments;
    indentation = a.indentation;
    context = a.context;
    ahead = a.ahead;
    halt = a.halt;
    node = λ k ds l. node_through a.node (below_awaits l) (below_halts l);
    unended = λ s. ⊎_elim (λ (l : p < place). inside_ends l e s) (λ (l : place ≤ p). nothing_inside (omega (arith, l, o)) s) (cases_lt p place);
    started = λ s. absurd (a.inside s);
    wanted = a.wanted;
    last = a.last;
    past = a.past;
    stack = a.stack;
    read = a.read;
  }

  -- a node begins there
  no_end_inside : (LineEndsAt t true place → ⊥) → Stuck (LineEnd t p)
  no_end_inside n = line_end_stuck a.inside (stuck_at_solid run no_white (λ h. n (hash_is_at refl h)) (record { none = λ j e. no_end_here n e }))

  inner_column : {column : Option ℕ} → Compact t progress.wanted.compact a.indentation p place (same_columns column) → ColumnTied a.layers place column
  inner_column k = record {
    shallow = λ m e.
        let c = compact_column_is k e in
        let s = (a.shallow c.compact).1 in
        let l = a.wanted.least in
        let n = c.is in
        let q = c.sum in
        omega (arith, ints, s, l, n, q);
    within = λ m e. a.wanted.within m (compact_column_is k e).deep;
  }

  pub starts_inside : {column : Option ℕ} → p < place → (LineEndsAt t true place → ⊥) → Compact t progress.wanted.compact a.indentation p place (same_columns column)
      → AtStart t d root before frames (same_columns column) place progress part
  starts_inside l n k =
      let s = no_end_inside n in
      record {
        layers = a.layers;
        room = a.room;
        comments = a.comments;
        indentation = a.indentation;
        context = a.context;
        ahead = a.ahead;
        halt = a.halt;
        node = node_through a.node (inline_awaits s run l no_white k) (inline_halts s run l no_white k);
        wanted = a.wanted;
        sequence = inner_column k;
        mapping = inner_column k;
        no_white = no_white;
        past = let v = a.past in omega (arith, v, l);
        stack = a.stack;
        read = a.read;
      }

-- a text that ends a line also ends it after white space
pub ends_anyway : {t : List ℕ} {b : Bool} {p : ℕ} → LineEndsAt t false p → LineEndsAt t b p
ends_anyway (text_stops e) = text_stops e
ends_anyway (feed_is_at e) = feed_is_at e
ends_anyway (return_is_at e) = return_is_at e
ends_anyway (hash_is_at c e) = absurd (true≢false (sym c))

pub later_than : {a b : ℕ} → a ≤ b → (b ≡ a → ⊥) → a < b
later_than {a} {b} l n = ⊎_elim (λ (m : a < b). m) (λ (m : b ≤ a). absurd (n (omega (arith, l, m)))) (cases_lt a b)

pub no_end_after : {t : List ℕ} {b : Bool} {p : ℕ} → (LineEndsAt t b p → ⊥) → b ≡ true → LineEndsAt t true p → ⊥
no_end_after {t} {b} {p} n e y = n (subst (λ z. LineEndsAt t z p) (sym e) y)
