-- Open collections along rows, each at the column of the one that holds it or one indentation further in; what an entry
-- leaves open, and rows that continue open collections.
use Rattle.std.proofs.Common.{◌≡◌, ℕ, ◌+◌, ◌<◌, Bool, true, false, true≢false, not, List, [], ◌∷◌, ◌++◌, refl, sym, ap, ◌∙◌, subst, arith}
use Rattle.std.specs.Prelude.{◌==◌, ◌&&◌, ◌||◌, nat_lt, if◌then◌else◌}
use Rattle.std.proofs.lemmas.Bool.Decides.{nat_tests}
use Rattle.yf_events.specs.declared.event.Span.{Span}
use Rattle.yf_events.specs.Tree.{Node, leaves}
use Rattle.yf_print.specs.Layouts.CommentColumns.{goes_on, is_ended_by, is_same_block, not_ended, open_after, placed_in}
use Rattle.yf_print.specs.declared.open_blocks.OpenBlock.{OpenBlock}
use Rattle.yf_print.specs.Layouts.KeptColumns.{after_row, after_starts, beginning, block_of, unless_document}
use Rattle.yf_print.specs.Layouts.Rows.{Row, Start, joined, one_line_row}
use Rattle.yf_laws.proofs.OutputLines.ColumnsHold.{AllBlocks, no_blocks, one_block}
use Rattle.yf_laws.proofs.SecondRun.ColumnsAgain.{InSteps, inner_step, last_step, same_step, NextIsAt, next_entry, next_node}

-- Collections and entries.

-- an entry of y is an entry of b, or ends it
pub data Over (y b : OpenBlock) : Type 0 where
  over_left : y.printed < b.printed → Over y b
  over_sequence : y.printed ≡ b.printed → b.is_sequence ≡ true → y.is_sequence ≡ false → Over y b
  over_same : y.printed ≡ b.printed → y.is_sequence ≡ b.is_sequence → Over y b

ended_left : (y b : OpenBlock) → y.printed < b.printed → is_ended_by y b ≡ true
ended_left y b l = ap (λ v. v || ((y.printed == b.printed) && (b.is_sequence && not y.is_sequence))) (below y.printed b.printed l) where
  below : (m n : ℕ) → m < n → nat_lt m n ≡ true
  below m n l = grind (arith, nat_tests)

ended_sequence : (y b : OpenBlock) → y.printed ≡ b.printed → b.is_sequence ≡ true → y.is_sequence ≡ false → is_ended_by y b ≡ true
ended_sequence y b e f g =
    ap (λ v. nat_lt y.printed b.printed || (v && (b.is_sequence && not y.is_sequence))) (same y.printed b.printed e)
    ∙ (ap (λ v. nat_lt y.printed b.printed || (v && not y.is_sequence)) f ∙ (ap (λ v. nat_lt y.printed b.printed || not v) g ∙ either (nat_lt y.printed b.printed))) where
      same : (m n : ℕ) → m ≡ n → (m == n) ≡ true
      same m n e = grind (arith, nat_tests)

      either : (v : Bool) → (v || true) ≡ true
      either true = refl
      either false = refl

not_both : (v : Bool) → (v && not v) ≡ false
not_both true = refl
not_both false = refl

not_ended_same : (y b : OpenBlock) → y.printed ≡ b.printed → y.is_sequence ≡ b.is_sequence → is_ended_by y b ≡ false
not_ended_same y b e f =
    ap (λ v. v || ((y.printed == b.printed) && (b.is_sequence && not y.is_sequence))) (never y.printed b.printed e)
    ∙ (ap (λ v. (y.printed == b.printed) && (b.is_sequence && not v)) f ∙ (ap (λ v. (y.printed == b.printed) && v) (not_both b.is_sequence) ∙ either (y.printed == b.printed))) where
      never : (m n : ℕ) → m ≡ n → nat_lt m n ≡ false
      never m n e = grind (arith, nat_tests)

      either : (v : Bool) → (v && false) ≡ false
      either true = refl
      either false = refl

same_block : (y b : OpenBlock) → y.printed ≡ b.printed → y.is_sequence ≡ b.is_sequence → is_same_block y b ≡ true
same_block y b e f =
    ap (λ v. v && (not (b.is_sequence && not y.is_sequence) && not (y.is_sequence && not b.is_sequence))) (same y.printed b.printed e)
    ∙ (ap (λ v. not (b.is_sequence && not v) && not (v && not b.is_sequence)) f ∙ (ap (λ v. not v && not (b.is_sequence && not b.is_sequence)) (not_both b.is_sequence) ∙ ap not (not_both b.is_sequence))) where
      same : (m n : ℕ) → m ≡ n → (m == n) ≡ true
      same m n e = grind (arith, nat_tests)

not_same_column : (y b : OpenBlock) → b.printed < y.printed → is_same_block y b ≡ false
not_same_column y b l = ap (λ v. v && (not (b.is_sequence && not y.is_sequence) && not (y.is_sequence && not b.is_sequence))) (other y.printed b.printed l) where
  other : (m n : ℕ) → n < m → (m == n) ≡ false
  other m n l = grind (arith, nat_tests)

not_ended_right : (y b : OpenBlock) → b.printed < y.printed → is_ended_by y b ≡ false
not_ended_right y b l =
    ap (λ v. v || ((y.printed == b.printed) && (b.is_sequence && not y.is_sequence))) (never y.printed b.printed l)
    ∙ ap (λ v. v && (b.is_sequence && not y.is_sequence)) (other y.printed b.printed l) where
      never : (m n : ℕ) → n < m → nat_lt m n ≡ false
      never m n l = grind (arith, nat_tests)

      other : (m n : ℕ) → n < m → (m == n) ≡ false
      other m n l = grind (arith, nat_tests)

-- of a sequence at the column of the mapping that holds it
not_ended_mapping : (y b : OpenBlock) → y.printed ≡ b.printed → b.is_sequence ≡ false → is_ended_by y b ≡ false
not_ended_mapping y b e f =
    ap (λ v. v || ((y.printed == b.printed) && (b.is_sequence && not y.is_sequence))) (never y.printed b.printed e)
    ∙ (ap (λ v. (y.printed == b.printed) && (v && not y.is_sequence)) f ∙ either (y.printed == b.printed)) where
      never : (m n : ℕ) → m ≡ n → nat_lt m n ≡ false
      never m n e = grind (arith, nat_tests)

      either : (v : Bool) → (v && false) ≡ false
      either true = refl
      either false = refl

not_same_kind : (y b : OpenBlock) → y.is_sequence ≡ true → b.is_sequence ≡ false → is_same_block y b ≡ false
not_same_kind y b e f =
    ap (λ v. (y.printed == b.printed) && (not (v && not y.is_sequence) && not (y.is_sequence && not v))) f
    ∙ (ap (λ v. (y.printed == b.printed) && not (v && true)) e ∙ either (y.printed == b.printed)) where
      either : (v : Bool) → (v && false) ≡ false
      either true = refl
      either false = refl

-- an entry of b, or of a collection around b, leaves the same collections of both lists
abbrev pub Kept : OpenBlock → List OpenBlock → List OpenBlock → Type 0
Kept b now bs = (y : OpenBlock) → Over y b → not_ended y now ≡ not_ended y bs

first_kept : (y b : OpenBlock) (bs : List OpenBlock) → is_ended_by y b ≡ true → not_ended y (b ∷ bs) ≡ not_ended y bs
first_kept y b bs e = ap (λ v. if v then not_ended y bs else b ∷ bs) e

first_stays : (y b : OpenBlock) (bs : List OpenBlock) → is_ended_by y b ≡ false → not_ended y (b ∷ bs) ≡ b ∷ bs
first_stays y b bs e = ap (λ v. if v then not_ended y bs else b ∷ bs) e

opened_new : (y : OpenBlock) (bs : List OpenBlock) → not_ended y bs ≡ bs → goes_on y bs ≡ false → open_after y bs ≡ placed_in y bs ∷ bs
opened_new y bs e f = ap (λ z. if goes_on y z then z else placed_in y z ∷ z) e ∙ ap (λ v. if v then bs else placed_in y bs ∷ bs) f

opened_again : (y : OpenBlock) (now : List OpenBlock) {bs : List OpenBlock} → not_ended y now ≡ bs → goes_on y bs ≡ true → open_after y now ≡ bs
opened_again y now {bs} e f = ap (λ z. if goes_on y z then z else placed_in y z ∷ z) e ∙ ap (λ v. if v then bs else placed_in y bs ∷ bs) f

module _ (w : ℕ) (wide : 0 < w) where
  -- the entries of a collection begin at that column within the first of those that are open
  pub data Enters (e : ℕ) (k : Bool) : List OpenBlock → Type 0 where
    enters_none : Enters e k []
    enters_further : {b : OpenBlock} {bs : List OpenBlock} → e ≡ b.printed + w → Enters e k (b ∷ bs)
    enters_same : {b : OpenBlock} {bs : List OpenBlock} → e ≡ b.printed → k ≡ true → b.is_sequence ≡ false → Enters e k (b ∷ bs)

  -- an entry of such a collection, before the first has begun or after others have ended
  pub data Where (e : ℕ) (k : Bool) (bs : List OpenBlock) : List OpenBlock → Type 0 where
    at_first : Enters e k bs → Where e k bs bs
    at_later : {now : List OpenBlock} {b : OpenBlock} → b.printed ≡ e → b.is_sequence ≡ k → Kept b now (b ∷ bs) → InSteps w (b ∷ bs) → Where e k bs now

  pub record Opened (e : ℕ) (k : Bool) (bs next : List OpenBlock) : Type 0 where
    pub block : OpenBlock
    pub is : next ≡ block ∷ bs
    pub at : block.printed ≡ e
    pub kind : block.is_sequence ≡ k
    pub steps : InSteps w (block ∷ bs)

  pub opening : {e : ℕ} {k : Bool} {bs now : List OpenBlock} (y : OpenBlock) → InSteps w bs → Where e k bs now → y.printed ≡ e → y.is_sequence ≡ k → Opened e k bs (open_after y now)
  opening y s (at_first enters_none) f g = record { block = placed_in y []; is = refl; at = f; kind = g; steps = last_step }
  opening {e} y s (at_first (enters_further {b = b} {bs = bs} m)) f g =
      let right : b.printed < y.printed = omega (arith, f, m, wide) in
      record { block = placed_in y (b ∷ bs); is = opened_new y (b ∷ bs) (first_stays y b bs (not_ended_right y b right)) (not_same_column y b right); at = f; kind = g; steps = inner_step (f ∙ m) s }
  opening y s (at_first (enters_same {b = b} {bs = bs} m n o)) f g =
      record { block = placed_in y (b ∷ bs); is = opened_new y (b ∷ bs) (first_stays y b bs (not_ended_mapping y b (f ∙ m) o)) (not_same_kind y b (g ∙ n) o); at = f; kind = g; steps = same_step (f ∙ m) s }
  opening {bs = bs} {now = now} y s (at_later {b = b} m n kept steps) f g =
      let there : y.printed ≡ b.printed = f ∙ sym m in
      let like : y.is_sequence ≡ b.is_sequence = g ∙ sym n in
      record {
        block = b;
        is = opened_again y now (kept y (over_same there like) ∙ first_stays y b bs (not_ended_same y b there like)) (same_block y b there like);
        at = m;
        kind = n;
        steps = steps;
      }

  -- the surrounding collections stay unchanged
  pub kept_around : {e : ℕ} {k : Bool} {b : OpenBlock} {bs now : List OpenBlock} → Enters e k (b ∷ bs) → Where e k (b ∷ bs) now → Kept b now (b ∷ bs)
  kept_around enters (at_first other) y over = refl
  kept_around {e} {k} {b} {bs} {now} enters (at_later {b = o} m n kept steps) y over = go enters over where
    left : y.printed < o.printed → not_ended y now ≡ not_ended y (b ∷ bs)
    left l = kept y (over_left l) ∙ first_kept y o (b ∷ bs) (ended_left y o l)

    go : Enters e k (b ∷ bs) → Over y b → not_ended y now ≡ not_ended y (b ∷ bs)
    go (enters_further f) (over_left l) = left (omega (arith, f, l, m))
    go (enters_further f) (over_sequence g h i) = left (omega (arith, f, g, m, wide))
    go (enters_further f) (over_same g h) = left (omega (arith, f, g, m, wide))
    go (enters_same f p q) (over_left l) = left (omega (arith, f, l, m))
    go (enters_same f p q) (over_sequence g h i) = absurd (true≢false (sym h ∙ q))
    go (enters_same f p q) (over_same g h) =
        let there : y.printed ≡ o.printed = g ∙ (sym f ∙ sym m) in
        let sequence : o.is_sequence ≡ true = n ∙ p in
        let mapping : y.is_sequence ≡ false = h ∙ q in
        kept y (over_sequence there sequence mapping) ∙ first_kept y o (b ∷ bs) (ended_sequence y o there sequence mapping)

  pub steps_below : {l : ℕ} {b : OpenBlock} {bs : List OpenBlock} → InSteps w (b ∷ bs) → b.printed < l → AllBlocks (λ k. k < l) (b ∷ bs)
  steps_below last_step m = one_block m no_blocks
  steps_below (same_step e s) m = one_block m (steps_below s (omega (arith, e, m)))
  steps_below (inner_step e s) m = one_block m (steps_below s (omega (arith, e, m)))

-- Rows.

-- the lines of a block scalar are right of all that are open
abbrev pub BodyRight : List (List ℕ) → ℕ → List OpenBlock → Type 0
BodyRight [] lines bs = Unit {0}
BodyRight (l ∷ ls) lines bs = AllBlocks (λ k. k < lines) bs

pub body_right : (body : List (List ℕ)) {lines : ℕ} {bs : List OpenBlock} → AllBlocks (λ k. k < lines) bs → BodyRight body lines bs
body_right [] a = tt
body_right (l ∷ ls) a = a

pub no_body : {body : List (List ℕ)} (lines : ℕ) (bs : List OpenBlock) → body ≡ [] → BodyRight body lines bs
no_body {body} lines bs e = subst (λ z. BodyRight z lines bs) (sym e) tt

module _ (t : List ℕ) (w : ℕ) where
  -- rows, with the collections open before them and after them
  pub data Chained : List OpenBlock → List Row → List OpenBlock → Type 0 where
    chain_over : {bs : List OpenBlock} → Chained bs [] bs
    chain_row : {bs now : List OpenBlock} {x : Row} {xs : List Row} → InSteps w bs → NextIsAt x.column (beginning t x.starts x.leaves) → BodyRight x.body x.lines (after_row t x bs) → Chained (after_row t x bs) xs now → Chained bs (x ∷ xs) now

  -- rows, the text of the first one after other text on its line
  pub data Inline : List OpenBlock → List Row → List OpenBlock → Type 0 where
    inline_over : {bs : List OpenBlock} → Inline bs [] bs
    inline_row : {bs now : List OpenBlock} {x : Row} {xs : List Row} → BodyRight x.body x.lines (after_starts t x.starts bs) → Chained (after_starts t x.starts bs) xs now → Inline bs (x ∷ xs) now

  -- the first row begins with an entry, at its column
  pub data Starting : List Row → Type 0 where
    none_starting : Starting []
    row_starting : {x : Row} {xs : List Row} {s : Start} {ss : List Start} → x.starts ≡ s ∷ ss → s.column ≡ x.column → Starting (x ∷ xs)

  pub chain_append : {bs ds es : List OpenBlock} {xs ys : List Row} → Chained bs xs ds → Chained ds ys es → Chained bs (xs ++ ys) es
  chain_append chain_over b = b
  chain_append (chain_row s n r a) b = chain_row s n r (chain_append a b)

  abbrev pub is_filled : List Row → Bool
  is_filled [] = false
  is_filled (x ∷ xs) = true

  pub inline_append : {bs ds es : List OpenBlock} {xs ys : List Row} → is_filled xs ≡ true → Inline bs xs ds → Chained ds ys es → Inline bs (xs ++ ys) es
  inline_append e inline_over b = absurd (true≢false (sym e))
  inline_append e (inline_row r a) b = inline_row r (chain_append a b)

  pub starting_append : {xs : List Row} (ys : List Row) → is_filled xs ≡ true → Starting xs → Starting (xs ++ ys)
  starting_append ys e none_starting = absurd (true≢false (sym e))
  starting_append ys e (row_starting f g) = row_starting f g

  started : (starts : List Start) (ls : List Span) (bs : List OpenBlock) {s : Start} {ss : List Start} → starts ≡ s ∷ ss → after_starts t starts (unless_document starts ls bs) ≡ after_starts t starts bs
  started starts ls bs e = ap (λ z. after_starts t z (unless_document z ls bs)) e ∙ sym (ap (λ z. after_starts t z bs) e)

  pub alone : {bs now : List OpenBlock} {xs : List Row} → InSteps w bs → Starting xs → Inline bs xs now → Chained bs xs now
  alone s a inline_over = chain_over
  alone {bs} {now} s (row_starting {s = first} e f) (inline_row {x = x} {xs = xs} r a) =
      let same : after_row t x bs ≡ after_starts t x.starts bs = started x.starts x.leaves bs e in
      chain_row s (subst (λ z. NextIsAt x.column (beginning t z x.leaves)) (sym e) (next_entry f)) (subst (λ z. BodyRight x.body x.lines z) (sym same) r) (subst (λ z. Chained z xs now) (sym same) a)

  -- Rows that are joined.

  pub joined_filled : (head : Row) (n : ℕ) (rs : List Row) → is_filled (joined head n rs) ≡ true
  joined_filled head n [] = refl
  joined_filled head n (r ∷ rs) = refl

  pub joined_starting : (head : Row) (n : ℕ) (rs : List Row) {s : Start} → head.starts ≡ s ∷ [] → s.column ≡ head.column → Starting (joined head n rs)
  joined_starting head n [] e f = row_starting e f
  joined_starting head n (r ∷ rs) e f = row_starting (ap (λ z. z ++ r.starts) e) f

  pub joined_inline : (head : Row) (n : ℕ) (rs : List Row) {s : Start} {bs now : List OpenBlock} → head.starts ≡ s ∷ [] → head.body ≡ [] → Inline (open_after (block_of t s) bs) rs now → Inline bs (joined head n rs) now
  joined_inline head n [] {s} {bs} e f inline_over = inline_row (no_body _ _ f) (subst (λ z. Chained z [] (open_after (block_of t s) bs)) (sym (ap (λ z. after_starts t z bs) e)) chain_over)
  joined_inline head n (r ∷ rs) {bs = bs} {now = now} e f (inline_row g a) =
      let same = sym (ap (λ z. after_starts t (z ++ r.starts) bs) e) in
      inline_row (subst (λ z. BodyRight r.body r.lines z) same g) (subst (λ z. Chained z rs now) same a)

  -- a head before rows of their own
  pub head_inline : (head : Row) {rs : List Row} {s : Start} {bs now : List OpenBlock} → head.starts ≡ s ∷ [] → head.body ≡ [] → Chained (open_after (block_of t s) bs) rs now → Inline bs (head ∷ rs) now
  head_inline head {rs} {bs = bs} {now = now} e f a = inline_row (no_body _ _ f) (subst (λ z. Chained z rs now) (sym (ap (λ z. after_starts t z bs) e)) a)

  pub line_inline : (column : ℕ) (x : Node) (text : List ℕ) {bs : List OpenBlock} → Inline bs (one_line_row column x text) bs
  line_inline column x [] = inline_over
  line_inline column x (b ∷ text) = inline_row tt chain_over

  -- a row without entries, but with a leaf
  pub leaf_alone : {x : Row} {bs : List OpenBlock} → InSteps w bs → x.starts ≡ [] → (x.leaves ≡ [] → ⊥) → BodyRight x.body x.lines bs → Chained bs (x ∷ []) bs
  leaf_alone {x} {bs} s e n r = go x.leaves refl where
    same : (l : Span) (ls : List Span) → x.leaves ≡ l ∷ ls → after_row t x bs ≡ bs
    same l ls f = ap (λ z. after_starts t z (unless_document z x.leaves bs)) e ∙ ap (λ z. unless_document [] z bs) f

    go : (ls : List Span) → x.leaves ≡ ls → Chained bs (x ∷ []) bs
    go [] f = absurd (n f)
    go (l ∷ ls) f =
        chain_row s (subst (λ z. NextIsAt x.column (beginning t z x.leaves)) (sym e) (subst (λ z. NextIsAt x.column (beginning t [] z)) (sym f) next_node)) (subst (λ z. BodyRight x.body x.lines z) (sym (same l ls f)) r)
        (subst (λ z. Chained z [] bs) (sym (same l ls f)) chain_over)

  pub line_alone : (column : ℕ) (x : Node) (text : List ℕ) {bs : List OpenBlock} → InSteps w bs → (leaves x ≡ [] → ⊥) → Chained bs (one_line_row column x text) bs
  line_alone column x [] s n = chain_over
  line_alone column x (b ∷ text) s n = leaf_alone s refl n tt
