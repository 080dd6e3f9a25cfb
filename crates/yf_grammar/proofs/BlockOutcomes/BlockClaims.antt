-- The laws of the reader of block nodes, for each production. An induction proves each of two claims: a derived part,
-- before something that can follow it in a whole node, is exactly the reader's outcome (`Exact`); and wherever a
-- derived node may end, the reader's last halt is there or later (`HaltsReach`).
use Rattle.std.proofs.Common.{◌≡◌, ◌≢◌, ℕ, suc, ◌+◌, ◌<◌, ◌≤◌, ℤ, pos, ◌+ℤ◌, ◌≤ℤ◌, Bool, true, false, ⊎_elim, List, [], ◌++◌, Option, refl, sym, ap, ◌∙◌, subst, arith, true≢false}
use Rattle.std.proofs.lemmas.Bool.{cases_lt}
use Rattle.std.proofs.lemmas.Int.{ints}
use Rattle.yf_chars.specs.declared.context.Ctx.{Ctx}
use Rattle.yf_chars.specs.declared.context.Ctx.TheVariants.{BlockOut, BlockIn, FlowOut, FlowIn, BlockKey, FlowKey}
use Rattle.yf_chars.specs.Text.{code}
use Rattle.yf_chars.specs.Class.{is_ns_char, is_nb_char, is_printable, is_between, is_break_char, is_white}
use Rattle.yf_chars.specs.Chain.{Stuck, Many}
use Rattle.yf_chars.specs.Chain.Chain.{done}
use Rattle.yf_chars.proofs.TextLemmas.{code-past}
use Rattle.yf_chars.proofs.ChainLemmas.{chain_append, chain_forward, one_functional, many_unique}
use Rattle.yf_lines.specs.Basic.{is_block, Spaces, ForbiddenLine, Clear}
use Rattle.yf_lines.proofs.BasicLemmas.{white_of_space}
use Rattle.yf_lines.proofs.ClearLemmas.{not_forbidden}
use Rattle.yf_comments.specs.Comment.{CommentValue}
use Rattle.yf_comments.specs.Comments.{Separate, LineEnd, Row}
use Rattle.yf_comments.proofs.RowLemmas.{stuck_at_solid}
use Rattle.yf_comments.proofs.LineEndLemmas.{row_stuck}
use Rattle.yf_comments.proofs.SeparateLemmas.{spaces_whites}
use Rattle.yf_plain.proofs.PlainLemmas.{ns_below, ns_not_white}
use Rattle.yf_props.specs.Names.{Properties, PropertiesValue}
use Rattle.yf_grammar.specs.Productions.BlockScalar.{BlockScalar}
use Rattle.yf_grammar.specs.Productions.Grammar.{FlowNode, BlockEntries, Derives, least_column, ColonLine}
use Rattle.yf_grammar.specs.Productions.Meaning.{Meaning, meaning_after, noting, with_props, collection}
use Rattle.yf_grammar.specs.FlowReader.Parser.{ParsedNode, found}
use Rattle.yf_grammar.specs.BlockReader.BlockParser.{DashAt, LinesEnd, text_ends, mark_is_at, marker_is_at, Content, LineText, NextEntry, next_item, next_pair, NoEntry, Ahead, Nothing, Indicator, Origin, BlockTask, Awaited, Items, Whole}
use Rattle.yf_grammar.specs.BlockReader.Halts.{NoColonAt, Halts}
use Rattle.yf_grammar.proofs.Ends.GapLemmas.{Visible, visible_solid}
use Rattle.yf_grammar.proofs.FlowReader.Longest.{Longest}
use Rattle.yf_chars.proofs.CharFacts.{colon_ns, mark_no_ns}

-- the text after a whole node in the indentation n: the node could take no further comment line and no further line;
-- the flag says that the node ends with a block scalar, which takes no comment lines
pub record Follow (t : List ℕ) (v : Bool) (n : ℤ) (c : Ctx) (j : ℕ) : Type 0 where
  pub still : v ≡ false → Stuck (Row t j)
  pub shallow : (m p : ℕ) → LineText t j m p → (n +ℤ pos 1) ≤ℤ pos m → ⊥
  pub no_dash : (m p : ℕ) → LineText t j m p → DashAt t p → p ≡ j + m → least_column true n c ≤ℤ pos m → ⊥

-- the text after the entries of a collection
pub record FollowItems (t : List ℕ) (v s : Bool) (m j : ℕ) : Type 0 where
  pub still : v ≡ false → Stuck (Row t j)
  pub no_entry : NoEntry t s m j

-- the context of an entry's node
abbrev pub entry_context : Bool → Ctx
entry_context true = BlockIn
entry_context false = BlockOut

-- the `Ahead` is nothing or an indicator
pub data Unheld : Ahead → Type 0 where
  nothing_ahead : Unheld Nothing
  indicator_ahead : {i : ℕ} → Unheld (Indicator i)

-- the outcome is found, and ends at j with h collections open at once
pub record IsFound (o : Option ParsedNode) (j h : ℕ) (x : Meaning) : Type 0 where
  pub is : o ≡ found j h false x

-- each outcome is the derived part
abbrev pub Exact : List ℕ → ℕ → BlockTask → ℕ → ℕ → Meaning → Type 0
Exact t e task j h x = (o : Option ParsedNode) → Whole t e task o → IsFound o j h x

-- if the task may end at j, its last halt is there or later
abbrev pub HaltsReach : List ℕ → ℕ → BlockTask → ℕ → Meaning → Type 0
HaltsReach t e task j x = (ws : List ℕ) → NoColonAt t j ws → (o : Option ParsedNode) → Halts t e ws task o → Longest o j x

-- the claims for a node, and for the entries of a collection
abbrev pub NodeExact : List ℕ → Bool → ℕ → ℤ → Ctx → ℕ → ℕ → Meaning → Type 0
NodeExact t v h n c i j x = (e : ℕ) → h ≤ e → Clear t i j → Follow t v n c j → (b : Bool) (a : Ahead) → Unheld a → Exact t e (Awaited b n c a i) j h x

abbrev pub EntriesExact : List ℕ → Bool → ℕ → Bool → ℕ → ℕ → ℕ → Meaning → Type 0
EntriesExact t v h s m i j x = (e : ℕ) → h ≤ e → Clear t i j → FollowItems t v s m j → (q : Origin) → Exact t e (Items s m q i) j h x

abbrev pub NodeHaltsReach : List ℕ → ℕ → ℤ → Ctx → ℕ → ℕ → Meaning → Type 0
NodeHaltsReach t h n c i j x = (e : ℕ) → h ≤ e → Clear t i j → (b : Bool) (a : Ahead) → Unheld a → HaltsReach t e (Awaited b n c a i) j x

abbrev pub EntryHaltsReach : List ℕ → ℕ → Bool → ℕ → ℕ → ℕ → Meaning → Type 0
EntryHaltsReach t h s m i j x = (e : ℕ) → h ≤ e → Clear t i j → (q : Origin) → HaltsReach t e (Items s m q i) j x

-- the reader finds each node that is no bare collection: flow nodes, block scalars, and nodes with properties
pub record LineReading (t : List ℕ) : Type 0 where
  pub flow : {h i k l j : ℕ} {n : ℤ} {c : Ctx} {cs ds : List CommentValue} {x : Meaning} → is_block c ≡ true
      → Separate t (n +ℤ pos 1) FlowOut i k cs → Derives t h (FlowNode (n +ℤ pos 1) FlowOut) k l x → LineEnd t l j ds
      → NodeExact t false h n c i j (meaning_after cs (noting x ds))
  pub scalar : {i k j : ℕ} {n : ℤ} {c : Ctx} {cs : List CommentValue} {x : Meaning} → is_block c ≡ true
      → Separate t (n +ℤ pos 1) c i k cs → BlockScalar t n k j x → NodeExact t true 0 n c i j (meaning_after cs x)
  pub scalar_with : {i f g k j : ℕ} {n : ℤ} {c : Ctx} {cs ds : List CommentValue} {p : PropertiesValue} {x : Meaning} → is_block c ≡ true
      → Separate t (n +ℤ pos 1) c i f cs → Properties t (n +ℤ pos 1) c f g p → Separate t (n +ℤ pos 1) c g k ds → BlockScalar t n k j x
      → NodeExact t true 0 n c i j (meaning_after (cs ++ p.comments ++ ds) (with_props p.props p.tag_offset f g x))
  pub collection_with : {h i f g k m j : ℕ} {v s : Bool} {n : ℤ} {c : Ctx} {cs ds : List CommentValue} {p : PropertiesValue} {x : Meaning}
      → is_block c ≡ true → Separate t (n +ℤ pos 1) c i f cs → Properties t (n +ℤ pos 1) c f g p → LineEnd t g k ds → Spaces t k m
      → least_column s n c ≤ℤ pos m → Derives t h (BlockEntries s m) (k + m) j x → EntriesExact t v h s m (k + m) j x
      → NodeExact t v (suc h) n c i j
      (meaning_after (cs ++ p.comments ++ ds) (with_props p.props p.tag_offset f g (collection s false (k + m) x.finish x)))

-- and they are reached
pub record LineHalting (t : List ℕ) : Type 0 where
  pub flow : {h i k l j : ℕ} {n : ℤ} {c : Ctx} {cs ds : List CommentValue} {x : Meaning} → is_block c ≡ true
      → Separate t (n +ℤ pos 1) FlowOut i k cs → Derives t h (FlowNode (n +ℤ pos 1) FlowOut) k l x → LineEnd t l j ds
      → NodeHaltsReach t h n c i j (meaning_after cs (noting x ds))
  pub scalar : {i k j : ℕ} {n : ℤ} {c : Ctx} {cs : List CommentValue} {x : Meaning} → is_block c ≡ true
      → Separate t (n +ℤ pos 1) c i k cs → BlockScalar t n k j x → NodeHaltsReach t 0 n c i j (meaning_after cs x)
  pub scalar_with : {i f g k j : ℕ} {n : ℤ} {c : Ctx} {cs ds : List CommentValue} {p : PropertiesValue} {x : Meaning} → is_block c ≡ true
      → Separate t (n +ℤ pos 1) c i f cs → Properties t (n +ℤ pos 1) c f g p → Separate t (n +ℤ pos 1) c g k ds → BlockScalar t n k j x
      → NodeHaltsReach t 0 n c i j (meaning_after (cs ++ p.comments ++ ds) (with_props p.props p.tag_offset f g x))
  pub collection_with : {h i f g k m j : ℕ} {s : Bool} {n : ℤ} {c : Ctx} {cs ds : List CommentValue} {p : PropertiesValue} {x : Meaning}
      → is_block c ≡ true → Separate t (n +ℤ pos 1) c i f cs → Properties t (n +ℤ pos 1) c f g p → LineEnd t g k ds → Spaces t k m
      → least_column s n c ≤ℤ pos m → Derives t h (BlockEntries s m) (k + m) j x → EntryHaltsReach t h s m (k + m) j x
      → NodeHaltsReach t (suc h) n c i j
      (meaning_after (cs ++ p.comments ++ ds) (with_props p.props p.tag_offset f g (collection s false (k + m) x.finish x)))

pub dash_ns : is_ns_char 45 ≡ true
unfolding is_ns_char is_nb_char is_printable is_between is_break_char is_white
dash_ns = refl

pub least_above : (s : Bool) (n : ℤ) (c : Ctx) (m : ℕ) → least_column s n c ≤ℤ pos m → n ≤ℤ pos m
least_above false n c m l = omega (arith, ints)
least_above true n BlockOut m l = l
least_above true n BlockIn m l = omega (arith, ints)
least_above true n FlowOut m l = omega (arith, ints)
least_above true n FlowIn m l = omega (arith, ints)
least_above true n BlockKey m l = omega (arith, ints)
least_above true n FlowKey m l = omega (arith, ints)

pub deeper_column : (s : Bool) (n : ℤ) (c : Ctx) (m : ℕ) → (n +ℤ pos 1) ≤ℤ pos m → least_column s n c ≤ℤ pos m
deeper_column false n c m l = l
deeper_column true n BlockOut m l = omega (arith, ints)
deeper_column true n BlockIn m l = l
deeper_column true n FlowOut m l = l
deeper_column true n FlowIn m l = l
deeper_column true n BlockKey m l = l
deeper_column true n FlowKey m l = l

module _ {t : List ℕ} where
  -- only white space is before the first character of a line
  pub line_whites : {k m p : ℕ} → LineText t k m p → (w : List ℕ) × Many t is_white k p w
  line_whites {k} {m} l = let s = spaces_whites t k m l.spaces in (s.0 ++ l.whites, chain_append s.1 l.run)

  -- no comment line begins at the start of a line that has content
  pub line_still : {k m p : ℕ} → LineText t k m p → Stuck (Row t k)
  line_still l = row_stuck (stuck_at_solid (line_whites l).1 l.content.no_white l.content.no_hash (record { none = λ j e. l.content.no_end j e }))

  same_spaces : {k m l : ℕ} → Spaces t k m → code t (k + m) ≢ 32 → Spaces t k l → code t (k + l) ≢ 32 → m ≡ l
  same_spaces {k} {m} {l} a x b y = ⊎_elim (λ (q : m < l). absurd (x (b.each m q))) (λ (q : l ≤ m).
      ⊎_elim (λ (r : l < m). absurd (y (a.each l r))) (λ (r : m ≤ l). omega arith) (cases_lt l m)) (cases_lt m l)

  -- a line has one column and one first character
  pub line_unique : {k m p l q : ℕ} → LineText t k m p → LineText t k l q → (l ≡ m) × (q ≡ p)
  line_unique {k} {m} {p} {l} {q} a b =
      let e = same_spaces b.spaces b.no_space a.spaces a.no_space in
      let w = line_whites a in
      let v = line_whites b in
      (e, (many_unique t is_white v.1 b.content.no_white w.1 a.content.no_white).0)

  pub line_forward : {k m p : ℕ} → LineText t k m p → k + m ≤ p
  line_forward {k} {m} {p} l = chain_forward (one_functional t is_white) l.run

  -- a character of content at the column is the first one
  pub line_first : {k m p : ℕ} → LineText t k m p → is_white (code t (k + m)) ≡ false → p ≡ k + m
  line_first {k} {m} l w = (many_unique t is_white l.run l.content.no_white (done {i = k + m}) w).0

  pub dash_visible : {i : ℕ} → DashAt t i → Visible t i
  dash_visible {i} d = record { ns = ap is_ns_char d.dash ∙ dash_ns; no_hash = λ e. omega (arith, d.dash) }

  pub visible_white : {i : ℕ} → Visible t i → is_white (code t i) ≡ false
  visible_white {i} v = ns_not_white (code t i) v.ns

  pub visible_content : {i : ℕ} → Visible t i → Content t i
  visible_content v = let s = visible_solid v in record { no_white = s.not_white; no_hash = s.no_comment; no_end = λ j e. s.no_end.none j e }

  -- a line with only spaces before its first character
  pub line_from : {k m : ℕ} → Spaces t k m → Visible t (k + m) → (ForbiddenLine t k → ⊥) → LineText t k m (k + m)
  line_from {k} {m} s v f = record {
    goes_on = ended;
    spaces = s;
    no_space = λ e. true≢false (sym (white_of_space (code t (k + m)) e) ∙ visible_white v);
    whites = [];
    run = done;
    content = visible_content v;
  } where
    ended : LinesEnd t k → ⊥
    ended (text_ends e) = let z = code-past t (k + m) (omega arith) in let y = ns_below (code t (k + m)) v.ns in absurd (omega arith)
    ended (mark_is_at e) = ⊎_elim
        (λ (l : 0 < m). let z = s.each 0 l in let y : k + 0 ≡ k = omega arith in let x = ap (code t) y in absurd (omega arith))
        (λ (l : m ≤ 0). let y : k + m ≡ k = omega arith in true≢false (sym v.ns ∙ ap (λ w. is_ns_char (code t w)) y ∙ ap is_ns_char e ∙ mark_no_ns))
        (cases_lt 0 m)
    ended (marker_is_at w) = f w

  pub colon_line : {k m : ℕ} → ColonLine t m k → LineText t k m (k + m)
  colon_line {k} {m} c = line_from c.indent (record { ns = ap is_ns_char c.colon ∙ colon_ns; no_hash = λ e. omega (arith, c.colon) }) (not_forbidden t k (first 45 (λ e. omega arith) (λ e. omega arith)) (first 46 (λ e. omega arith) (λ e. omega arith))) where
    first : (x : ℕ) → x ≢ 32 → x ≢ 58 → code t k ≢ x
    first x a b e = ⊎_elim
        (λ (l : 0 < m). let z = c.indent.each 0 l in let y : k + 0 ≡ k = omega arith in let w = ap (code t) y in a (omega arith))
        (λ (l : m ≤ 0). let y : k + m ≡ k = omega arith in let w = ap (code t) y in let v = c.colon in b (omega arith))
        (cases_lt 0 m)

  -- the text after an entry or its node
  pub follow_last : {v s : Bool} {m j : ℕ} → FollowItems t v s m j → Follow t v (pos m) (entry_context s) j
  follow_last {v} {s} {m} {j} f = record { still = f.still; shallow = λ l p w q. deeper l p w q; no_dash = dashed s f } where
    deeper : (l p : ℕ) → LineText t j l p → (pos m +ℤ pos 1) ≤ℤ pos l → ⊥
    deeper l p w q = let d = f.no_entry.not_deeper l p w in omega (arith, ints)

    dashed : (r : Bool) → FollowItems t v r m j → (l p : ℕ) → LineText t j l p → DashAt t p → p ≡ j + l → least_column true (pos m) (entry_context r) ≤ℤ pos l → ⊥
    dashed true g l p w d e q = let z = g.no_entry.not_deeper l p w in omega (arith, ints)
    dashed false g l p w d e q =
        let z = g.no_entry.not_deeper l p w in
        let y : l ≡ m = omega (arith, ints) in
        g.no_entry.no_next (next_pair (subst (λ v. LineText t j v p) y w))

  -- entries end with the node of their collection
  pub follow_inside : {v : Bool} {n : ℤ} {c : Ctx} {j : ℕ} (s : Bool) (m : ℕ) → least_column s n c ≤ℤ pos m → Follow t v n c j → FollowItems t v s m j
  follow_inside {v} {n} {c} {j} s m q f = record { still = f.still; no_entry = record { no_next = none s q; not_deeper = λ l p w. above l p w } } where
    none : (r : Bool) → least_column r n c ≤ℤ pos m → NextEntry t r m j → ⊥
    none true y (next_item {p = p} w d) =
        let e = line_first w (visible_white (dash_visible d)) in
        f.no_dash m p w (subst (λ v. DashAt t v) (sym e) d) e y
    none false y (next_pair {p = p} w) = f.shallow m p w y

    above : (l p : ℕ) → LineText t j l p → l ≤ m
    above l p w = ⊎_elim
        (λ (y : m < l). let z = least_above s n c m q in absurd (f.shallow l p w (omega (arith, ints))))
        (λ (y : l ≤ m). y) (cases_lt m l)

  -- compact entries are deeper than the indentation of their node
  pub follow_compact : {v : Bool} {c : Ctx} {j : ℕ} (s : Bool) (m l : ℕ) → Follow t v (pos m) c j → FollowItems t v s (m + 1 + l) j
  follow_compact {c = c} s m l f = follow_inside s (m + 1 + l) (deeper_column s (pos m) c (m + 1 + l) (omega (arith, ints))) f

  -- an entry follows, or the `:` of a `?`
  pub follow_next : {v : Bool} {k m : ℕ} (s : Bool) → LineText t k m (k + m) → (s ≡ false → DashAt t (k + m) → ⊥) → Follow t v (pos m) (entry_context s) k
  follow_next {k = k} {m = m} s w d = record { still = λ e. line_still w; shallow = deeper; no_dash = dashed s d } where
    deeper : (l p : ℕ) → LineText t k l p → (pos m +ℤ pos 1) ≤ℤ pos l → ⊥
    deeper l p v q = let e = (line_unique w v).0 in omega (arith, ints)

    dashed : (r : Bool) → (r ≡ false → DashAt t (k + m) → ⊥) → (l p : ℕ) → LineText t k l p → DashAt t p → p ≡ k + l
        → least_column true (pos m) (entry_context r) ≤ℤ pos l → ⊥
    dashed true z l p v y e q = let r = (line_unique w v).0 in omega (arith, ints)
    dashed false z l p v y e q = let r = (line_unique w v).1 in z refl (subst (λ u. DashAt t u) r y)

  pub follow_colon : {v : Bool} {k m : ℕ} → ColonLine t m k → Follow t v (pos m) BlockOut k
  follow_colon {k = k} {m = m} c = follow_next false (colon_line c) (λ e d. let y = c.colon in let z = d.dash in absurd (omega arith))
