-- The lines of double-quoted scalars (7.3.1) add to content what `Quoted` of yf_quoted derives: no half of a pair ends
-- a line.
use Rattle.std.proofs.Common.{◌≡◌, ℕ, ◌+◌, ◌<◌, ◌≤◌, ℤ, true, false, true≢false, ◌==◌, List, [], ◌∷◌, ◌++◌, refl, sym, ap, ◌∙◌, subst, append_assoc, ⊎_elim, arith}
use Rattle.std.proofs.lemmas.Bool.{cases_Bool, eqb-true, eq-eqb}
use Rattle.yf_chars.specs.declared.context.Ctx.{Ctx}
use Rattle.yf_chars.specs.declared.context.Ctx.TheVariants.{FlowIn}
use Rattle.yf_chars.specs.Text.{code, next}
use Rattle.yf_chars.specs.Class.{is_white}
use Rattle.yf_chars.specs.Chain.{Chain, Many}
use Rattle.yf_chars.specs.Chain.Chain.{done, step}
use Rattle.yf_chars.specs.Chain.One.{one}
use Rattle.yf_chars.specs.Escape.{NoLow}
use Rattle.yf_chars.specs.Escape.Escape.{by_letter, by_two, by_eight}
use Rattle.yf_lines.specs.Basic.{Break, Empty, FlowPrefix, FlowFolded, is_flow, is_key}
use Rattle.yf_lines.specs.Basic.Empty.{prefixed, shorter}
use Rattle.yf_lines.specs.Basic as Basic
use Rattle.yf_lines.specs.Basic.{SeparateInLine, FoldedBreak}
use Rattle.yf_lines.specs.Basic.SeparateInLine.{by_whites, at_start}
use Rattle.yf_lines.specs.Basic.Indent.{exactly}
use Rattle.yf_lines.specs.Basic.IndentLess.{fewer}
use Rattle.yf_lines.specs.Basic.FlowPrefix.{indented}
use Rattle.yf_lines.specs.Basic.LinePrefix.{in_block, in_flow}
use Rattle.yf_lines.specs.Basic.FoldedBreak.{trimmed, as_space}
use Rattle.yf_lines.specs.Basic.FlowFolded.{at_break, past_whites}
use Rattle.yf_lines.proofs.BasicLemmas.{break_forward}
use Rattle.yf_quoted.specs.Quoted.{Piece, goods, DoubleChar, DoubleBreak}
use Rattle.yf_quoted.specs.Quoted.Piece.{good}
use Rattle.yf_quoted.specs.Quoted.Item.{set_off}
use Rattle.yf_quoted.specs.Quoted.Rest.{blank, last_break, next_line}
use Rattle.yf_quoted.specs.Quoted.Inside.{as_key, as_lines}
use Rattle.yf_quoted.specs.Quoted.DoubleChar.{unescaped}
use Rattle.yf_quoted.specs.Quoted.DoubleBreak.{folded_break, escaped_break}
use Rattle.yf_standard.specs.Characters.{c-escape, s-white}
use Rattle.yf_standard.specs.Contents.{Mark, marks, one_char, piece_of, pieces, no_backslash}
use Rattle.yf_standard.specs.Contents.Mark.{char, escape}
use Rattle.yf_standard.proofs.Meant.{Then, Either, Perhaps, Character}
use Rattle.yf_standard.proofs.Meant.Then.{both}
use Rattle.yf_standard.proofs.Meant.Either.{left, right}
use Rattle.yf_standard.proofs.Meant.Perhaps.{missing, given}
use Rattle.yf_standard.proofs.Meant.Character.{character}
use Rattle.yf_standard.proofs.Basics.{char_is, many_forward}
use Rattle.yf_standard.proofs.BasicsMeant.{Quiet, Spells, spells, marks_append, many_spells, same_spells, nothing_after}
use Rattle.yf_standard.proofs.BasicsMeant.Puts.{puts}
use Rattle.yf_standard.proofs.BasicsMeant.Spells.{spelled}
use Rattle.yf_standard.proofs.DoublesMeant.{Marked, FourThen, Fresh, fresh_after, four_then, four_piece, as_piece, not_first, pieces_marks, chars_pieces}
use Rattle.yf_standard.proofs.DoublesMeant.Marked.{a_char, a_letter, a_two, a_four, an_eight}
use Rattle.yf_standard.proofs.DoublesMeant.FourThen.{alone, as_pair}
use Rattle.yf_standard.proofs.Doubles.{no_low_of}
use Rattle.yf_standard.proofs.QuotedRead.{DoubleItem, DoubleRest, DoubleInside, no_white, double_break_low}
use Rattle.yf_standard.proofs.Sets.{white_is}
use Rattle.yf_chars.proofs.TextLemmas.{next_later}
use Rattle.yf_quoted.proofs.DoubleLemmas.{white_backslash}

-- [114], with its marks
pub data MarkedItems (t : List ℕ) : ℕ → ℕ → List Mark → Type 0 where
  no_items : {i : ℕ} → MarkedItems t i i []
  an_item : {i h k j : ℕ} {u : List ℕ} {v y : List Mark} → Many t is_white i h u → is_white (code t h) ≡ false → Marked t h k v → MarkedItems t k j y
      → MarkedItems t i j (marks u ++ (v ++ y))

abbrev pub NsMarked : List ℕ → ℕ → ℕ → List Mark → Type 0
NsMarked t i j v = Marked t i j v × (s-white (code t i) ≡ false)

pub items_marked : {t : List ℕ} {i j : ℕ} {x : List Mark} → Chain (Then (Chain (Character t one_char s-white)) (NsMarked t)) i j x → MarkedItems t i j x
items_marked done = no_items
items_marked {t} (step (both w c) r) = go (many_spells {t = t} {s = s-white} {p = is_white} white_is w) c.0 c.1 (items_marked r) where
  go : {i h k j : ℕ} {u v y : List Mark} → Spells (Many t is_white) i h u → Marked t h k v → s-white (code t h) ≡ false → MarkedItems t k j y → MarkedItems t i j ((u ++ v) ++ y)
  go {i = i} {j = j} {v = v} {y = y} (spelled {x = u} m) c n r = subst (λ z. MarkedItems t i j z) (sym (append_assoc (marks u) v y)) (an_item m (no_white _ n) c r)

-- the meaning of items before marks that do not complete a pair
pub record Pieced (t : List ℕ) (i j : ℕ) (x y : List Mark) : Type 0 where
  pub meaning : List Piece
  pub items : Chain (DoubleItem t) i j meaning
  pub are : pieces (x ++ y) ≡ meaning ++ pieces y

put_item : {t : List ℕ} {i h k j : ℕ} {u : List ℕ} {z y : List Mark} (v : List Mark) (q : List Piece) → Many t is_white i h u → is_white (code t h) ≡ false → DoubleChar t h k q
    → Pieced t k j z y → pieces (v ++ (z ++ y)) ≡ q ++ pieces (z ++ y) → Pieced t i j (marks u ++ (v ++ z)) y
put_item {u = u} {z = z} {y = y} v q m w c r e = record {
  meaning = (goods u ++ q) ++ r.meaning;
  items = step (set_off m w c) r.items;
  are = ap pieces (append_assoc (marks u) (v ++ z) y ∙ ap (λ a. marks u ++ a) (append_assoc v z y)) ∙ pieces_marks u (v ++ (z ++ y)) ∙ ap (λ a. goods u ++ a) (e ∙ ap (λ a. q ++ a) r.are)
      ∙ sym (ap (λ a. a ++ pieces y) (append_assoc (goods u) q r.meaning) ∙ append_assoc (goods u) (q ++ r.meaning) (pieces y) ∙ ap (λ a. goods u ++ a) (append_assoc q r.meaning (pieces y)));
}

white_low : {t : List ℕ} {i : ℕ} → is_white (code t i) ≡ true → NoLow t i
white_low e = no_low_of (λ b. absurd (true≢false (sym e ∙ ap is_white b ∙ white_backslash)))

module _ {t : List ℕ} where
  put_four : {i h k j v : ℕ} {u : List ℕ} {x z y : List Mark} → Many t is_white i h u → is_white (code t h) ≡ false → FourThen t h k v x (z ++ y)
      → Pieced t (h + 6) j (x ++ z) y → Pieced t k j z y → Pieced t i j (marks u ++ ((escape v h (h + 6) ∷ []) ++ (x ++ z))) y
  put_four {h = h} {v = v} {x = x} {z = z} {y = y} m w (alone c e) r s =
      put_item (escape v h (h + 6) ∷ []) (piece_of v h ∷ []) m w c r (ap (λ a. pieces (escape v h (h + 6) ∷ a)) (append_assoc x z y) ∙ e ∙ ap (λ a. piece_of v h ∷ pieces a) (sym (append_assoc x z y)))
  put_four {h = h} {v = v} {x = x} {z = z} {y = y} m w (as_pair {p = p} c e) r s = put_item (escape v h (h + 6) ∷ x) (p ∷ []) m w c s e

  -- the meaning of the items after the first one
  Others : {i j : ℕ} {x : List Mark} (y : List Mark) → MarkedItems t i j x → Type 0
  Others y no_items = Unit {0}
  Others {j = j} y (an_item {k = k} {y = z} m w c s) = Pieced t k j z y

  item_pieces : {i h k j : ℕ} {u : List ℕ} {v z : List Mark} (y : List Mark) → Many t is_white i h u → is_white (code t h) ≡ false → Marked t h k v → (s : MarkedItems t k j z)
      → Pieced t k j z y → Others y s → NoLow t j → Fresh j y → Pieced t i j (marks u ++ (v ++ z)) y
  unfolding pieces Others
  item_pieces {h = h} y m w (a_char a b c) s p r n f = put_item (char (code t h) ∷ []) (good (code t h) ∷ []) m w (unescaped a b c) p refl
  item_pieces {h = h} {z = z} y m w (a_letter {v = v} a b) s p r n f =
      put_item (escape v h (h + 2) ∷ []) (piece_of v h ∷ []) m w (as_piece (by_letter a b)) p (not_first h (h + 2) v (z ++ y) (λ q. absurd (omega (arith, q))))
  item_pieces {h = h} {z = z} y m w (a_two {v = v} a) s p r n f =
      put_item (escape v h (h + 4) ∷ []) (piece_of v h ∷ []) m w (as_piece (by_two a)) p (not_first h (h + 4) v (z ++ y) (λ q. absurd (omega (arith, q))))
  item_pieces {h = h} {z = z} y m w (an_eight {v = v} a) s p r n f =
      put_item (escape v h (h + 10) ∷ []) (piece_of v h ∷ []) m w (as_piece (by_eight a)) p (not_first h (h + 10) v (z ++ y) (λ q. absurd (omega (arith, q))))
  item_pieces {h = h} y m w (a_four {v = v} a) no_items p r n f = put_item (escape v h (h + 6) ∷ []) (piece_of v h ∷ []) m w (four_piece a n) p (fresh_after h v y f)
  item_pieces {h = h} y m w (a_four {v = v} a) (an_item (step (one b) g) q c s) p r n f = put_item (escape v h (h + 6) ∷ []) (piece_of v h ∷ []) m w (four_piece a (white_low b)) p refl
  item_pieces y m w (a_four a) (an_item {y = z} done q c s) p r n f = put_four m w (four_then (z ++ y) a c) p r

  both_pieces : {i j : ℕ} {x : List Mark} (s : MarkedItems t i j x) → NoLow t j → (y : List Mark) → Fresh j y → Pieced t i j x y × Others y s
  unfolding Others
  both_pieces no_items n y f = (record { meaning = []; items = done; are = refl }, tt)
  both_pieces (an_item m w c s) n y f = let r = both_pieces s n y f in (item_pieces y m w c s r.0 r.1 n f, r.0)

  pub items_pieces : {i j : ℕ} {x : List Mark} → MarkedItems t i j x → NoLow t j → (y : List Mark) → Fresh j y → Pieced t i j x y
  items_pieces s n y f = (both_pieces s n y f).0

-- [112]: the white space, and the empty lines
no_backslash_white : {t : List ℕ} {i j : ℕ} {u : List ℕ} (y : List Mark) → Many t is_white i j u → no_backslash (marks u ++ y) ≡ marks u ++ no_backslash y
unfolding no_backslash
no_backslash_white y done = refl
no_backslash_white {t} y (step (one {i = i} e) m) = rw (other e) (ap (λ z. char (code t i) ∷ z) (no_backslash_white y m)) where
  other : is_white (code t i) ≡ true → (code t i == 92) ≡ false
  other e = ⊎_elim (λ (b : (code t i == 92) ≡ true). absurd (true≢false (sym e ∙ ap is_white (eqb-true (code t i) 92 b) ∙ white_backslash))) (λ b. b) (cases_Bool (code t i == 92))

no_backslash_empties : {t : List ℕ} {n : ℤ} {i j : ℕ} {u : List ℕ} → Chain (Empty t n FlowIn) i j u → no_backslash (marks u) ≡ marks u
unfolding no_backslash
no_backslash_empties done = refl
no_backslash_empties (step (prefixed p b) r) = ap (λ z. char 10 ∷ z) (no_backslash_empties r)
no_backslash_empties (step (shorter p b) r) = ap (λ z. char 10 ∷ z) (no_backslash_empties r)

-- breaks move on
in_line_order : {t : List ℕ} {i j : ℕ} → SeparateInLine t i j → i ≤ j
in_line_order (by_whites m l) = omega arith
in_line_order (at_start s) = omega arith

module _ {t : List ℕ} {n : ℤ} where
  prefix_order : {i j : ℕ} → FlowPrefix t n i j → i ≤ j
  prefix_order (indented (exactly k q s)) = omega arith
  prefix_order (Basic.set_off (exactly k q s) w) = let a = in_line_order w in omega arith

  empty_later : {i j : ℕ} {u : List ℕ} → Empty t n FlowIn i j u → i < j
  empty_later (prefixed (in_block e d) b) = absurd (true≢false (sym e))
  empty_later (prefixed (in_flow e p) b) = let a = prefix_order p in let c = break_forward b in omega arith
  empty_later (shorter (fewer k q s) b) = let c = break_forward b in omega arith

  empties_order : {i j : ℕ} {u : List ℕ} → Chain (Empty t n FlowIn) i j u → i ≤ j
  empties_order done = omega arith
  empties_order (step e r) = let a = empty_later e in let b = empties_order r in omega arith

  fold_later : {i j : ℕ} {u : List ℕ} → FoldedBreak t n FlowIn i j u → i < j
  fold_later (trimmed b e r) = let a = break_forward b in let c = empty_later e in let d = empties_order r in omega arith
  fold_later (as_space b) = break_forward b

  flow_folded_later : {i j : ℕ} {u : List ℕ} → FlowFolded t n i j u → i < j
  flow_folded_later (at_break f p) = let a = fold_later f in let b = prefix_order p in omega arith
  flow_folded_later (past_whites s f p) = let a = fold_later f in let b = prefix_order p in let c = in_line_order s in omega arith

abbrev pub GoodBreak : List ℕ → ℤ → ℕ → ℕ → List ℕ → Type 0
GoodBreak t n i j u = DoubleBreak t n i j (goods u) × (i < j)

goods_append : (x y : List ℕ) → goods (x ++ y) ≡ goods x ++ goods y
goods_append [] y = refl
goods_append (c ∷ x) y = ap (λ z. good c ∷ z) (goods_append x y)

-- [112] and [113]
pub escaped_spells : {t : List ℕ} {n : ℤ} {i j : ℕ} {y : List Mark}
    → Then (Chain (Character t one_char s-white)) (Then (Character t one_char c-escape) (Then (Quiet (Break t)) (Then (Chain (Spells (Empty t n FlowIn))) (Quiet (FlowPrefix t n))))) i j y
    → Spells (GoodBreak t n) i j (no_backslash y)
unfolding no_backslash c-escape
escaped_spells {t} {n} (both w (both d (both (puts b) (both e (puts p))))) = go (many_spells {t = t} {s = s-white} {p = is_white} white_is w) d b (same_spells e) p where
  here : (h : ℕ) (w : List Mark) → code t h ≡ 92 → no_backslash (char (code t h) ∷ w) ≡ no_backslash w
  here h w e = rw (eq-eqb (code t h) 92 e) refl

  go : {i h g k l j : ℕ} {u v w : List Mark} → Spells (Many t is_white) i h u → Character t one_char c-escape h g v → Break t g k → Spells (Chain (Empty t n FlowIn)) k l w → FlowPrefix t n l j
      → Spells (GoodBreak t n) i j (no_backslash (u ++ (v ++ ([] ++ (w ++ [])))))
  go {i = i} {h = h} {k = k} {j = j} (spelled {x = u} m) (character q) b (spelled {x = w} e) p =
      let a = char_is t h (next t h) 92 (omega arith) (q, refl) in
      spells (u ++ w) (
        subst (λ z. DoubleBreak t n i j z) (sym (goods_append u w)) (escaped_break m a.0 (subst (λ z. Break t z k) (sym a.1) b) e p),
        let f = many_forward m in let q = break_forward b in let r = empties_order e in let v = prefix_order p in omega (arith, f, q, r, v, a.1),
      )
      (marks_append u w ∙ sym (no_backslash_white (char (code t h) ∷ (marks w ++ [])) m ∙ ap (λ z. marks u ++ z) (here h (marks w ++ []) a.0 ∙ ap no_backslash (nothing_after (marks w)) ∙ no_backslash_empties e)))

pub break_spells : {t : List ℕ} {n : ℤ} {i j : ℕ} {y : List Mark} → Either (Spells (GoodBreak t n)) (Spells (FlowFolded t n)) i j y → Spells (GoodBreak t n) i j y
break_spells (left d) = d
break_spells (right (spelled f)) = spelled (folded_break f, flow_folded_later f)

-- the rest of a line, or further lines: no half of a pair continues there
pub record RestMeans (t : List ℕ) (n : ℤ) (i j : ℕ) (y : List Mark) : Type 0 where
  pub low : NoLow t i
  pub fresh : Fresh i y
  pub rest : DoubleRest t n i j (pieces y)

pub record NextMeans (t : List ℕ) (n : ℤ) (i j : ℕ) (y : List Mark) : Type 0 where
  pub low : NoLow t i
  pub fresh : Fresh i y
  pub rest : NoLow t j → DoubleRest t n i j (pieces y)

all_good : (u : List ℕ) → pieces (marks u) ≡ goods u
unfolding pieces
all_good [] = refl
all_good (c ∷ u) = ap (λ z. good c ∷ z) (all_good u)

rest_means : {t : List ℕ} {n : ℤ} {i j : ℕ} {y : List Mark} → NoLow t j → Either (NextMeans t n) (Chain (Character t one_char s-white)) i j y → RestMeans t n i j y
rest_means l (left r) = record { low = r.low; fresh = r.fresh; rest = r.rest l }
rest_means {t} {n} l (right w) = go l (many_spells {t = t} {s = s-white} {p = is_white} white_is w) where
  blanks : {i j : ℕ} {u : List ℕ} → Many t is_white i j u → DoubleRest t n i j (pieces (marks u))
  blanks {i} {j} {u} m = subst (λ z. DoubleRest t n i j z) (sym (all_good u)) (blank m)

  go : {i j : ℕ} {y : List Mark} → NoLow t j → Spells (Many t is_white) i j y → RestMeans t n i j y
  go l (spelled done) = record { low = l; fresh = tt; rest = blanks done }
  go l (spelled (step (one e) m)) = record { low = white_low e; fresh = tt; rest = blanks (step (one e) m) }

-- the first item of a line that doesn't begin with white space
data FirstItem (t : List ℕ) (i j : ℕ) : List Piece → Type 0 where
  first_then : {k : ℕ} {a b : List Piece} → DoubleChar t i k a → Chain (DoubleItem t) k j b → FirstItem t i j (a ++ b)

first_of : {t : List ℕ} {i j : ℕ} {w : List Piece} → Chain (DoubleItem t) i j w → i < j → is_white (code t i) ≡ false → FirstItem t i j w
first_of done l n = absurd (omega arith)
first_of (step (set_off done v c) r) l n = first_then c r
first_of (step (set_off (step (one e) m) v c) r) l n = absurd (true≢false (sym e ∙ n))

-- how far
marked_later : {t : List ℕ} {i j : ℕ} {v : List Mark} → Marked t i j v → i < j
marked_later {t} {i} (a_char a b c) = next_later t i
marked_later (a_letter a b) = omega arith
marked_later (a_two a) = omega arith
marked_later (a_four a) = omega arith
marked_later (an_eight a) = omega arith

items_order : {t : List ℕ} {i j : ℕ} {v : List Mark} → MarkedItems t i j v → i ≤ j
items_order no_items = omega arith
items_order (an_item m w c s) = let a = many_forward m in let b = marked_later c in let d = items_order s in omega (arith, a, b, d)

fresh_later : {t : List ℕ} {i h k : ℕ} {v : List Mark} (y : List Mark) → i < h → Marked t h k v → Fresh i (v ++ y)
fresh_later y l (a_char a b c) = tt
fresh_later y l (a_letter a b) = λ q _. absurd (omega (arith, q, l))
fresh_later y l (a_two a) = λ q _. absurd (omega (arith, q, l))
fresh_later y l (a_four a) = λ q _. absurd (omega (arith, q, l))
fresh_later y l (an_eight a) = λ q _. absurd (omega (arith, q, l))

fresh_marks : (i : ℕ) (u : List ℕ) (y : List Mark) → Fresh i y → Fresh i (marks u ++ y)
fresh_marks i [] y f = f
fresh_marks i (c ∷ u) y f = tt

-- [115]
abbrev pub DoubleGoesOn : List ℕ → ℤ → ℕ → ℕ → List Mark → Type 0
DoubleGoesOn t n = Then (NsMarked t) (Then (MarkedItems t) (Either (NextMeans t n) (Chain (Character t one_char s-white))))

module _ {t : List ℕ} {n : ℤ} where
  last_means : {i j : ℕ} (u : List ℕ) → GoodBreak t n i j u → NextMeans t n i j (marks u ++ [])
  last_means {i} {j} u d = record {
    low = double_break_low d.0;
    fresh = fresh_marks i u [] tt;
    rest = λ l. subst (λ z. DoubleRest t n i j z) (sym (ap pieces (nothing_after (marks u)) ∙ all_good u)) (last_break d.0);
  }

  further : {i h k l j : ℕ} (u : List ℕ) {v y z : List Mark} → GoodBreak t n i h u → is_white (code t h) ≡ false → Marked t h k v → MarkedItems t k l y → RestMeans t n l j z
      → DoubleRest t n i j (pieces (marks u ++ (v ++ (y ++ z))))
  further {i} {h} {l = l} {j = j} u {v} {y} {z} d w c s r = go (items_pieces (an_item done w c s) r.low z r.fresh) where
    go : Pieced t h l (v ++ y) z → DoubleRest t n i j (pieces (marks u ++ (v ++ (y ++ z))))
    go p = split (first_of p.items (let a = marked_later c in let b = items_order s in omega arith) w) p.are where
      split : {m : List Piece} → FirstItem t h l m → pieces ((v ++ y) ++ z) ≡ m ++ pieces z → DoubleRest t n i j (pieces (marks u ++ (v ++ (y ++ z))))
      split (first_then {a = a} {b = b} f g) e =
          let whole : pieces (marks u ++ (v ++ (y ++ z))) ≡ goods u ++ (a ++ (b ++ pieces z)) =
          pieces_marks u (v ++ (y ++ z)) ∙ ap (λ q. goods u ++ q) (ap pieces (sym (append_assoc v y z)) ∙ e ∙ append_assoc a b (pieces z)) in
          subst (λ q. DoubleRest t n i j q) (sym whole) (next_line d.0 w f g r.rest)

  pub double_next_means : {i j : ℕ} {x : List Mark} → Then (Spells (GoodBreak t n)) (Perhaps (DoubleGoesOn t n)) i j x → NextMeans t n i j x
  double_next_means (both (spelled {x = u} d) missing) = last_means u d
  double_next_means {i} (both (spelled {x = u} d) (given (both {x = v} c (both {x = y} {y = z} s e)))) = record {
    low = double_break_low d.0;
    fresh = fresh_marks i u (v ++ (y ++ z)) (fresh_later (y ++ z) d.1 c.0);
    rest = λ l. further u d (no_white _ c.1) c.0 s (rest_means l e);
  }

-- [116], and [110] and [111]
abbrev pub DoubleBetween : List ℕ → ℤ → ℕ → ℕ → List Mark → Type 0
DoubleBetween t n i j y = (c : Ctx) → is_flow c ≡ true → NoLow t j → DoubleInside t n c i j (pieces y)

pub double_multi_means : {t : List ℕ} {n : ℤ} {i j : ℕ} {x : List Mark} → Then (MarkedItems t) (Either (NextMeans t n) (Chain (Character t one_char s-white))) i j x → DoubleBetween t n i j x
double_multi_means {t} {n} {i} {j} (both {k = k} {x = x} {y = y} s e) = λ c f l. go c f (rest_means l e) where
  go : (c : Ctx) → is_flow c ≡ true → RestMeans t n k j y → DoubleInside t n c i j (pieces (x ++ y))
  go c f r = let p = items_pieces s r.low y r.fresh in subst (λ z. DoubleInside t n c i j z) (sym p.are) (as_lines f p.items r.rest)

pub double_key_means : {t : List ℕ} {n : ℤ} {c : Ctx} {i j : ℕ} {x : List Mark} → is_key c ≡ true → Chain (Marked t) i j x → NoLow t j → DoubleInside t n c i j (pieces x)
double_key_means k s l = as_key k (chars_pieces s l)
