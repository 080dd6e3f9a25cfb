-- The recursive reader of flow nodes has an outcome for each task: that cannot be refuted. The induction goes by the
-- length of the text after the offset of a task, and at one offset by the order of the tasks.
use Rattle.std.proofs.Common.{◌≡◌, ◌≢◌, ℕ, suc, zero, ◌+◌, ◌-◌, ◌*◌, ◌<◌, ◌≤◌, ℤ, Bool, true, false, ◌==◌, ◌||◌, ⊎_elim, List, [], Option, Some, None, length, refl, sym, arith, true≢false}
use Rattle.std.proofs.lemmas.Bool.{cases_Bool, cases_lt, cases_eq}
use Rattle.std.proofs.lemmas.Bool.Decides.{nat_tests}
use Rattle.std.specs.Str.{IsUtf8}
use Rattle.yf_chars.specs.declared.context.Ctx.{Ctx}
use Rattle.yf_chars.specs.declared.context.Ctx.TheVariants.{BlockOut, BlockIn, FlowOut, FlowIn, BlockKey, FlowKey}
use Rattle.yf_chars.specs.Text.{code, no_char}
use Rattle.yf_chars.specs.Chain.{Stuck, Chosen}
use Rattle.yf_chars.proofs.TextLemmas.{within_from_code}
use Rattle.yf_lines.specs.Basic.{is_flow, is_block}
use Rattle.yf_comments.specs.Comment.{CommentValue}
use Rattle.yf_comments.specs.Comments.{Separate}
use Rattle.yf_props.specs.Names.{Properties, PropertiesValue}
use Rattle.yf_props.proofs.SeparationEnds.{separate_forward}
use Rattle.yf_plain.specs.Kept.{is_inside}
use Rattle.yf_grammar.specs.Productions.Grammar.{in_flow, opening, closing}
use Rattle.yf_grammar.specs.FlowReader.Parser.{ParsedNode, Task, Parses, Gap, ColonAt, PairKey, ANode, AContent, TheEntries, AnEntry, AnExplicit, AnImplicit, AValue, begins_alias, begins_properties, begins_content, begins_plain}
use Rattle.yf_grammar.specs.FlowReader.Parser as Parser
use Rattle.yf_grammar.proofs.Ends.Irrefutable.{Irrefutable, sure, then, by_cases, ChosenOrStuck, reached, unreached}
use Rattle.yf_grammar.proofs.BlockReader.LeavesReached.{separate_reached, alias_reached, plain_reached}
use Rattle.yf_grammar.proofs.BlockReader.PropertiesReached.{properties_reached, single_reached, double_reached}
use Rattle.yf_grammar.proofs.FlowReader.FlowStarts.{flow_starts}
use Rattle.yf_grammar.proofs.Ends.Forward.{whites_forward}
use Rattle.yf_grammar.proofs.Ends.NodeExits.{none_found}
use Rattle.yf_grammar.proofs.FlowReader.Sound.{sound, found_is_derived}
use Rattle.yf_props.proofs.NameOrder.{properties_forward}

-- an outcome of a task
pub record Answer (t : List ℕ) (e : ℕ) (task : Task) : Type 0 where
  pub outcome : Option ParsedNode
  pub read : Parses t e task outcome

pub answer : {t : List ℕ} {e : ℕ} {task : Task} {o : Option ParsedNode} → Parses t e task o → Irrefutable (Answer t e task)
answer {o = o} r = sure (record { outcome = o; read = r })

module _ {t : List ℕ} {e : ℕ} {task : Task} {B : Type 0} where
  by_outcome : (o : Option ParsedNode) → Parses t e task o → ((f : ParsedNode) → Parses t e task (Some f) → Irrefutable B) → (Parses t e task None → Irrefutable B) → Irrefutable B
  by_outcome None r some none = none r
  by_outcome (Some f) r some none = some f r

  pub asks : Irrefutable (Answer t e task) → ((f : ParsedNode) → Parses t e task (Some f) → Irrefutable B) → (Parses t e task None → Irrefutable B) → Irrefutable B
  asks a some none = then a (λ r. by_outcome r.outcome r.read some none)

module _ {X : Type 0} {P : ℕ → X → Type 0} {B : Type 0} where
  by_reach : ChosenOrStuck P → ((j : ℕ) (x : X) → Chosen P j x → Irrefutable B) → (Stuck P → Irrefutable B) → Irrefutable B
  by_reach (reached j x c) some none = some j x c
  by_reach (unreached s) some none = none s

  pub takes : Irrefutable (ChosenOrStuck P) → ((j : ℕ) (x : X) → Chosen P j x → Irrefutable B) → (Stuck P → Irrefutable B) → Irrefutable B
  takes a some none = then a (λ r. by_reach r some none)

-- the weight of a task, by the length of the text that is left
abbrev left : List ℕ → ℕ → ℕ
left t i = 8 * (length t - i)

abbrev weight : List ℕ → Task → ℕ
weight t (AContent n c i) = 1 + left t i
weight t (ANode n c i) = 2 + left t i
weight t (AValue json n c i) = 3 + left t i
weight t (AnImplicit n c s i) = 4 + left t i
weight t (AnExplicit n c s i) = 5 + left t i
weight t (AnEntry s n c i) = 6 + left t i
weight t (TheEntries s n c i) = 7 + left t i

-- the contexts of the tasks that are called outside of keys
pub record Inside (c : Ctx) : Type 0 where
  pub flow : is_flow c ≡ true
  pub inside : is_inside c ≡ true

abbrev pub Fit : List ℕ → Task → Type 0
Fit t (ANode n c i) = is_flow c ≡ true
Fit t (AContent n c i) = (is_flow c ≡ true) × (begins_content (code t i) ≡ true)
Fit t (AValue json n c i) = Inside c
Fit t (AnImplicit n c s i) = Inside c
Fit t (AnExplicit n c s i) = Inside c
Fit t (AnEntry s n c i) = Inside c
Fit t (TheEntries s n c i) = Inside c

pub flow_not_block : (c : Ctx) → is_flow c ≡ true → is_block c ≡ false
flow_not_block BlockOut f = absurd (true≢false (sym f))
flow_not_block BlockIn f = absurd (true≢false (sym f))
flow_not_block FlowOut f = refl
flow_not_block FlowIn f = refl
flow_not_block BlockKey f = absurd (true≢false (sym f))
flow_not_block FlowKey f = absurd (true≢false (sym f))

in_flow_inside_flow : (c : Ctx) → is_flow c ≡ true → Inside (in_flow c)
in_flow_inside_flow BlockOut f = absurd (true≢false (sym f))
in_flow_inside_flow BlockIn f = absurd (true≢false (sym f))
in_flow_inside_flow FlowOut f = record { flow = refl; inside = refl }
in_flow_inside_flow FlowIn f = record { flow = refl; inside = refl }
in_flow_inside_flow BlockKey f = absurd (true≢false (sym f))
in_flow_inside_flow FlowKey f = absurd (true≢false (sym f))

-- the signs of content
data ContentSign (c : ℕ) : Type 0 where
  single_sign : c ≡ 39 → ContentSign c
  double_sign : c ≡ 34 → ContentSign c
  bracket_sign : (s : Bool) → c ≡ opening s → ContentSign c

content_sign : (c : ℕ) → begins_content c ≡ true → ContentSign c
unfolding begins_content
content_sign c e = ⊎_elim (λ (q : c ≡ 39). single_sign q)
    (λ (a : c ≢ 39). ⊎_elim (λ (q : c ≡ 34). double_sign q)
    (λ (b : c ≢ 34). ⊎_elim (λ (q : c ≡ 91). bracket_sign true q) (λ (d : c ≢ 91). bracket_sign false (grind (arith, nat_tests))) (cases_eq c 91))
    (cases_eq c 34))
    (cases_eq c 39)

opening_real : (c : ℕ) (s : Bool) → c ≡ opening s → c < no_char
opening_real c true e = omega arith
opening_real c false e = omega arith

pub plain_else : (c : ℕ) → begins_alias c ≡ false → begins_properties c ≡ false → begins_content c ≡ false → begins_plain c ≡ true
unfolding begins_plain
plain_else c a b d = rw (a, b, d) refl

-- a value is always found
value_found : {t : List ℕ} {e i : ℕ} {json : Bool} {n : ℤ} {c : Ctx} {o : Option ParsedNode} → Parses t e (AValue json n c i) o → None ≡ o → ⊥
value_found (Parser.value_read s p) e = absurd (cc)
value_found (Parser.value_empty {i = i} cs s p) e = none_found (i + 1) 0 false _ e
value_found (Parser.value_adjacent s p) e = absurd (cc)
value_found (Parser.value_adjacent_empty {i = i} s p) e = none_found (i + 1) 0 false _ e
value_found (Parser.value_missing {i = i} s) e = none_found (i + 1) 0 false _ e

pub gap_forward : {t : List ℕ} {n : ℤ} {c : Ctx} {i k : ℕ} {cs : List CommentValue} → Gap t n c i k cs → i ≤ k
gap_forward (Parser.longest_gap s) = separate_forward s.derived
gap_forward (Parser.no_gap s) = omega arith

module _ {t : List ℕ} (u : IsUtf8 t) where
  gaps : {B : Type 0} (n : ℤ) (c : Ctx) (i : ℕ) → ((k : ℕ) (cs : List CommentValue) → Gap t n c i k cs → Irrefutable B) → Irrefutable B
  gaps n c i f = takes (separate_reached u n c i) (λ k cs s. f k cs (Parser.longest_gap s)) (λ s. f i [] (Parser.no_gap s))

  node_later : {e i : ℕ} {n : ℤ} {c : Ctx} {f : ParsedNode} → is_flow c ≡ true → Parses t e (ANode n c i) (Some f) → i < f.end
  node_later {c = c} w r = let b = flow_not_block c w in (flow_starts (found_is_derived b r).0 b).starts.later

  entry_later : {e i : ℕ} {s : Bool} {n : ℤ} {c : Ctx} {f : ParsedNode} → Inside c → Parses t e (AnEntry s n c i) (Some f) → i < f.end
  entry_later {c = c} w r = let m = sound r w.inside in (flow_starts m.derived (flow_not_block c w.flow)).later

-- each task has an outcome, if tasks of less weight do
module _ {t : List ℕ} (u : IsUtf8 t) (m : ℕ) (known : (e : ℕ) (task : Task) → Fit t task → weight t task < m → Irrefutable (Answer t e task)) where
  -- properties, and the text after them
  after_gap : {e i g k : ℕ} {n : ℤ} {c : Ctx} {p : PropertiesValue} {cs : List CommentValue} → is_flow c ≡ true → weight t (ANode n c i) ≤ m
      → Chosen (Properties t n c i) g p → Chosen (Separate t n c g) k cs → Irrefutable (Answer t e (ANode n c i))
  after_gap {e} {i} {g} {k} {n} {c} f w p s = ⊎_elim
      (λ (b : begins_content (code t k) ≡ true).
      let l = properties_forward p.derived in
      let r = separate_forward s.derived in
      asks (known e (AContent n c k) (f, b) (omega arith)) (λ x q. answer (Parser.properties_content p s b q)) (λ q. answer (Parser.properties_before_broken p s b q)))
      (λ (b : begins_content (code t k) ≡ false).
      takes (plain_reached u n c k f) (λ j x q. answer (Parser.properties_plain p s b q)) (λ q. answer (Parser.properties_before_other p s b q)))
      (cases_Bool (begins_content (code t k)))

  node_answer : (e i : ℕ) (n : ℤ) (c : Ctx) → is_flow c ≡ true → weight t (ANode n c i) ≤ m → Irrefutable (Answer t e (ANode n c i))
  node_answer e i n c f w = ⊎_elim
      (λ (a : begins_alias (code t i) ≡ true). takes (alias_reached u i) (λ j x s. answer (Parser.alias_read s)) (λ s. answer (Parser.alias_missed a s)))
      (λ (a : begins_alias (code t i) ≡ false). ⊎_elim
      (λ (b : begins_properties (code t i) ≡ true). takes (properties_reached u n c i)
      (λ g p s. takes (separate_reached u n c g) (λ k cs q. after_gap f w s q) (λ q. answer (Parser.properties_end s q)))
      (λ s. answer (Parser.properties_missed b s)))
      (λ (b : begins_properties (code t i) ≡ false). ⊎_elim
      (λ (d : begins_content (code t i) ≡ true). then (known e (AContent n c i) (f, d) (omega arith)) (λ r. answer (Parser.content_read d r.read)))
      (λ (d : begins_content (code t i) ≡ false).
      let q = plain_else (code t i) a b d in
      takes (plain_reached u n c i f) (λ j x s. answer (Parser.plain_read q s)) (λ s. answer (Parser.plain_missed q s)))
      (cases_Bool (begins_content (code t i))))
      (cases_Bool (begins_properties (code t i))))
      (cases_Bool (begins_alias (code t i)))

  bracket_answer : (e i : ℕ) (n : ℤ) (c : Ctx) (s : Bool) → is_flow c ≡ true → code t i ≡ opening s → i < length t → weight t (AContent n c i) ≤ m
      → Irrefutable (Answer t e (AContent n c i))
  bracket_answer zero i n c s f q l w = answer (Parser.too_deep s q)
  bracket_answer (suc e) i n c s f q l w = gaps u n c (i + 1)
      (λ k cs g.
      let o = gap_forward g in
      asks (known e (TheEntries s n (in_flow c) k) (in_flow_inside_flow c f) (omega arith)) (λ x r. answer (Parser.collection_read s q g r)) (λ r. answer (Parser.collection_missed s cs q g r)))

  content_answer : (e i : ℕ) (n : ℤ) (c : Ctx) → is_flow c ≡ true → begins_content (code t i) ≡ true → weight t (AContent n c i) ≤ m → Irrefutable (Answer t e (AContent n c i))
  content_answer e i n c f b w = go (content_sign (code t i) b) where
    go : ContentSign (code t i) → Irrefutable (Answer t e (AContent n c i))
    go (single_sign q) = takes (single_reached (flow_not_block c f) i) (λ j x s. answer (Parser.single_read s)) (λ s. answer (Parser.single_missed q s))
    go (double_sign q) = takes (double_reached (flow_not_block c f) i) (λ j x s. answer (Parser.double_read s)) (λ s. answer (Parser.double_missed q s))
    go (bracket_sign s q) = bracket_answer e i n c s f q (within_from_code t i (opening_real (code t i) s q)) w

  -- entries
  after_comma : {e i k d : ℕ} {s : Bool} {n : ℤ} {c : Ctx} {cs ds : List CommentValue} {f : ParsedNode} → Inside c → weight t (TheEntries s n c i) ≤ m → code t i ≢ closing s
      → Parses t e (AnEntry s n c i) (Some f) → Gap t n c f.end k cs → code t k ≡ 44 → Gap t n c (k + 1) d ds → Irrefutable (Answer t e (TheEntries s n c i))
  after_comma {e} {i} {k} {d} {s} {n} {c} {cs} {ds} v w a p g b h =
      let l = entry_later u v p in
      let o = gap_forward g in
      let r = gap_forward h in
      let z = within_from_code t k (omega arith) in
      asks (known e (TheEntries s n c d) v (omega arith)) (λ x q. answer (Parser.entry_then a p g b h q)) (λ q. answer (Parser.entry_then_missed cs ds a p g b h q))

  after_entry : {e i k : ℕ} {s : Bool} {n : ℤ} {c : Ctx} {cs : List CommentValue} {f : ParsedNode} → Inside c → weight t (TheEntries s n c i) ≤ m → code t i ≢ closing s
      → Parses t e (AnEntry s n c i) (Some f) → Gap t n c f.end k cs → Irrefutable (Answer t e (TheEntries s n c i))
  after_entry {k = k} {s = s} {n = n} {c = c} {cs = cs} v w a p g = ⊎_elim
      (λ (q : code t k ≡ closing s). answer (Parser.entry_last a p g q))
      (λ (q : code t k ≢ closing s). ⊎_elim
      (λ (b : code t k ≡ 44). gaps u n c (k + 1) (λ d ds h. after_comma v w a p g b h))
      (λ (b : code t k ≢ 44). answer (Parser.entry_unclosed cs a p g q b))
      (cases_eq (code t k) 44))
      (cases_eq (code t k) (closing s))

  entries_answer : (e i : ℕ) (s : Bool) (n : ℤ) (c : Ctx) → Inside c → weight t (TheEntries s n c i) ≤ m → Irrefutable (Answer t e (TheEntries s n c i))
  entries_answer e i s n c v w = ⊎_elim
      (λ (a : code t i ≡ closing s). answer (Parser.entries_end a))
      (λ (a : code t i ≢ closing s). asks (known e (AnEntry s n c i) v (omega arith))
      (λ f p. gaps u n c f.end (λ k cs g. after_entry v w a p g))
      (λ p. answer (Parser.entry_missed a p)))
      (cases_eq (code t i) (closing s))

  -- an entry of a mapping
  mapping_answer : (e i : ℕ) (n : ℤ) (c : Ctx) → Inside c → weight t (AnEntry false n c i) ≤ m → Irrefutable (Answer t e (AnEntry false n c i))
  mapping_answer e i n c v w = ⊎_elim
      (λ (a : code t i ≡ 63). takes (separate_reached u n c (i + 1))
      (λ k cs s.
      let o = separate_forward s.derived in
      let l = within_from_code t i (omega arith) in
      asks (known e (AnExplicit n c i k) v (omega arith)) (λ f p. answer (Parser.mapping_explicit a s p)) (λ p. answer (Parser.mapping_explicit_missed cs a s p)))
      (λ s. then (known e (AnImplicit n c i i) v (omega arith)) (λ r. answer (Parser.mapping_sign_alone a s r.read))))
      (λ (a : code t i ≢ 63). then (known e (AnImplicit n c i i) v (omega arith)) (λ r. answer (Parser.mapping_implicit a r.read)))
      (cases_eq (code t i) 63)

  explicit_answer : (e s i : ℕ) (n : ℤ) (c : Ctx) → Inside c → weight t (AnExplicit n c s i) ≤ m → Irrefutable (Answer t e (AnExplicit n c s i))
  explicit_answer e s i n c v w = ⊎_elim
      (λ (a : (code t i == 44) || (code t i == 93) || (code t i == 125) ≡ true). answer (Parser.explicit_nothing a))
      (λ (a : (code t i == 44) || (code t i == 93) || (code t i == 125) ≡ false).
      then (known e (AnImplicit n c s i) v (omega arith)) (λ r. answer (Parser.explicit_something a r.read)))
      (cases_Bool ((code t i == 44) || (code t i == 93) || (code t i == 125)))

  -- a value, which is always found
  has_value : {B : Type 0} (e i : ℕ) (json : Bool) (n : ℤ) (c : Ctx) → Inside c → weight t (AValue json n c i) < m
      → ((g : ParsedNode) → Parses t e (AValue json n c i) (Some g) → Irrefutable B) → Irrefutable B
  has_value e i json n c v w f = asks (known e (AValue json n c i) v w) f (λ r. absurd (value_found r refl))

  implicit_answer : (e s i : ℕ) (n : ℤ) (c : Ctx) → Inside c → weight t (AnImplicit n c s i) ≤ m → Irrefutable (Answer t e (AnImplicit n c s i))
  implicit_answer e s i n c v w = by_cases (ColonAt t false c i)
      (λ a. has_value e i false n c v (omega arith) (λ f p. answer (Parser.lone_value a p)))
      (λ a. asks (known e (ANode n c i) v.flow (omega arith))
      (λ f p. gaps u n c f.end (λ k cs g. by_cases (ColonAt t f.json c k)
      (λ b.
      let l = node_later u v.flow p in
      let o = gap_forward g in
      has_value e k f.json n c v (omega arith) (λ x q. answer (Parser.key_with_value a p g b q)))
      (λ b. answer (Parser.key_without_value cs a p g b))))
      (λ p. answer (Parser.key_missed a p)))

  -- an entry of a sequence
  explicit_pair : (e i k : ℕ) (n : ℤ) (c : Ctx) (cs : List CommentValue) → Inside c → weight t (AnEntry true n c i) ≤ m → code t i ≡ 63
      → Chosen (Separate t n c (i + 1)) k cs → Irrefutable (Answer t e (AnEntry true n c i))
  explicit_pair zero i k n c cs v w a s = answer (Parser.pair_explicit_too_deep cs a s)
  explicit_pair (suc e) i k n c cs v w a s =
      let o = separate_forward s.derived in
      let l = within_from_code t i (omega arith) in
      asks (known e (AnExplicit n c i k) v (omega arith)) (λ f p. answer (Parser.pair_explicit a s p)) (λ p. answer (Parser.pair_explicit_missed cs a s p))

  value_pair : (e i : ℕ) (n : ℤ) (c : Ctx) → Inside c → weight t (AnEntry true n c i) ≤ m → ColonAt t false c i → Irrefutable (Answer t e (AnEntry true n c i))
  value_pair zero i n c v w a = answer (Parser.pair_of_value_too_deep a)
  value_pair (suc e) i n c v w a = has_value e i false n c v (omega arith) (λ f p. answer (Parser.pair_of_value a p))

  keyed_pair : (e i k : ℕ) (n : ℤ) (c : Ctx) {f : ParsedNode} → Inside c → weight t (AnEntry true n c i) ≤ m → (code t i ≡ 63 → Stuck (Separate t n c (i + 1))) → (ColonAt t false c i → ⊥)
      → Parses t e (ANode n c i) (Some f) → PairKey t c i f k → Irrefutable (Answer t e (AnEntry true n c i))
  keyed_pair zero i k n c v w a b p q = answer (Parser.pair_too_deep a b p q (omega arith))
  keyed_pair (suc e) i k n c {f = f} v w a b p q = ⊎_elim
      (λ (l : e < f.height). answer (Parser.pair_too_deep a b p q (omega arith)))
      (λ (l : f.height ≤ e).
      let o = node_later u v.flow p in
      let r = whites_forward q.run in
      has_value e k f.json n c v (omega arith) (λ x y. answer (Parser.pair_of_key a b p q l y)))
      (cases_lt e f.height)

  unsigned_answer : (e i : ℕ) (n : ℤ) (c : Ctx) → Inside c → weight t (AnEntry true n c i) ≤ m → (code t i ≡ 63 → Stuck (Separate t n c (i + 1))) → Irrefutable (Answer t e (AnEntry true n c i))
  unsigned_answer e i n c v w a = by_cases (ColonAt t false c i)
      (λ b. value_pair e i n c v w b)
      (λ b. asks (known e (ANode n c i) v.flow (omega arith))
      (λ f p. by_cases ((k : ℕ) × PairKey t c i f k)
      (λ q. keyed_pair e i q.0 n c v w a b p q.1)
      (λ q. answer (Parser.item_read a b p (λ k r. q (k, r)))))
      (λ p. answer (Parser.item_missed a b p)))

  item_answer : (e i : ℕ) (n : ℤ) (c : Ctx) → Inside c → weight t (AnEntry true n c i) ≤ m → Irrefutable (Answer t e (AnEntry true n c i))
  item_answer e i n c v w = ⊎_elim
      (λ (a : code t i ≡ 63). takes (separate_reached u n c (i + 1)) (λ k cs s. explicit_pair e i k n c cs v w a s) (λ s. unsigned_answer e i n c v w (λ q. s)))
      (λ (a : code t i ≢ 63). unsigned_answer e i n c v w (λ q. absurd (a q)))
      (cases_eq (code t i) 63)

  -- a value
  adjacent_answer : (e i : ℕ) (json : Bool) (n : ℤ) (c : Ctx) → Inside c → weight t (AValue json n c i) ≤ m → Stuck (Separate t n c (i + 1)) → Irrefutable (Answer t e (AValue json n c i))
  adjacent_answer e i true n c v w s = asks (known e (ANode n c (i + 1)) v.flow (omega arith)) (λ f p. answer (Parser.value_adjacent s p)) (λ p. answer (Parser.value_adjacent_empty s p))
  adjacent_answer e i false n c v w s = answer (Parser.value_missing s)

  value_answer : (e i : ℕ) (json : Bool) (n : ℤ) (c : Ctx) → Inside c → weight t (AValue json n c i) ≤ m → Irrefutable (Answer t e (AValue json n c i))
  value_answer e i json n c v w = takes (separate_reached u n c (i + 1))
      (λ k cs s.
      let o = separate_forward s.derived in
      asks (known e (ANode n c k) v.flow (omega arith)) (λ f p. answer (Parser.value_read s p)) (λ p. answer (Parser.value_empty cs s p)))
      (λ s. adjacent_answer e i json n c v w s)

  task_answer : (e : ℕ) (task : Task) → Fit t task → weight t task ≤ m → Irrefutable (Answer t e task)
  task_answer e (ANode n c i) f w = node_answer e i n c f w
  task_answer e (AContent n c i) f w = content_answer e i n c f.0 f.1 w
  task_answer e (TheEntries s n c i) f w = entries_answer e i s n c f w
  task_answer e (AnEntry true n c i) f w = item_answer e i n c f w
  task_answer e (AnEntry false n c i) f w = mapping_answer e i n c f w
  task_answer e (AnExplicit n c s i) f w = explicit_answer e s i n c f w
  task_answer e (AnImplicit n c s i) f w = implicit_answer e s i n c f w
  task_answer e (AValue json n c i) f w = value_answer e i json n c f w

all_answered : {t : List ℕ} → IsUtf8 t → (m e : ℕ) (task : Task) → Fit t task → weight t task < m → Irrefutable (Answer t e task)
all_answered u zero e task f w = absurd (omega arith)
all_answered u (suc m) e task f w = task_answer u m (all_answered u m) e task f (omega arith)

-- each task of the reader of flow nodes has an outcome
pub task_answered : {t : List ℕ} → IsUtf8 t → (e : ℕ) (task : Task) → Fit t task → Irrefutable (Answer t e task)
task_answered {t} u e task f = all_answered u (suc (weight t task)) e task f (omega arith)

pub node_answered : {t : List ℕ} → IsUtf8 t → (e : ℕ) (n : ℤ) (c : Ctx) (i : ℕ) → is_flow c ≡ true → Irrefutable (Answer t e (ANode n c i))
node_answered u e n c i f = task_answered u e (ANode n c i) f
