-- The recursive reader has one outcome: the text and the limit decide the way of each task.
use Rattle.std.proofs.Common.{◌≡◌, ◌≢◌, ℕ, suc, ◌+◌, ℤ, Bool, true, false, ◌==◌, ◌||◌, not, List, Option, refl, sym, ap, ◌∙◌, ⊎_elim, arith}
use Rattle.std.proofs.lemmas.Bool.{true≢false, cases_eq}
use Rattle.std.proofs.lemmas.Bool.Decides.{nat_tests}
use Rattle.yf_chars.specs.declared.context.Ctx.{Ctx}
use Rattle.yf_chars.specs.Text.{code}
use Rattle.yf_chars.specs.Class.{is_white}
use Rattle.yf_chars.specs.Chain.{Stuck}
use Rattle.yf_chars.proofs.ChainLemmas.{many_unique}
use Rattle.yf_comments.specs.Comments.{Separate}
use Rattle.yf_plain.specs.Plain.{Plain}
use Rattle.yf_props.specs.Names.{Alias, Anchor, ampersand_name, Properties, PropertiesValue}
use Rattle.yf_quoted.specs.Quoted.{SingleQuoted, DoubleQuoted}
use Rattle.yf_grammar.specs.Productions.Grammar.{in_flow, opening, closing}
use Rattle.yf_grammar.specs.FlowReader.Parser.{ParsedNode, Task, Parses, PairKey, plain_found, begins_alias, begins_properties, begins_content, begins_plain}
use Rattle.yf_grammar.specs.FlowReader.Parser as Parser
use Rattle.yf_grammar.proofs.Ends.Ways.{Agree, one_way, other_way, taken, not_taken, past, finds, finds_none, below, at_zero, there, nowhere, flagged, is_agree, never_agree, fork_agree, takes_agree, past_agree, finds_agree, limited_agree, somewhere_agree, flagged_agree}
use Rattle.yf_chars.proofs.CharFacts.{colon_no_white}
use Rattle.yf_grammar.proofs.Ends.NodeExits.{alias_begins}
use Rattle.yf_grammar.proofs.FlowReader.PropertiesEnds.{properties_begin}
use Rattle.yf_grammar.proofs.FlowReader.TaskWays.{AdjacentWay, AfterEntry, AfterKey, AfterProperties, BracketWay, ContentWay, EntriesWay, ExplicitWay, ImplicitWay, ItemWay, MappingWay, NodeItemWay, NodeWay, Outcomes, UnsignedWay, ValueWay, Way}

pub anchor_code : {t : List ℕ} {i j : ℕ} {x : List ℕ} → Anchor t i j x → code t i ≡ 38
anchor_code (ampersand_name e r) = e

starts_anchor : (c : ℕ) → c ≡ 38 → begins_properties c ≡ true
unfolding begins_properties
starts_anchor c e = rw e refl

starts_tag : (c : ℕ) → c ≡ 33 → begins_properties c ≡ true
unfolding begins_properties
starts_tag c e = rw e refl

properties_no_alias : (c : ℕ) → begins_properties c ≡ true → begins_alias c ≡ false
unfolding begins_properties begins_alias
properties_no_alias c e = grind (arith, nat_tests)

pub content_no_alias : (c : ℕ) → begins_content c ≡ true → begins_alias c ≡ false
unfolding begins_content begins_alias
content_no_alias c e = grind (arith, nat_tests)

pub content_no_properties : (c : ℕ) → begins_content c ≡ true → begins_properties c ≡ false
unfolding begins_content begins_properties
content_no_properties c e = grind (arith, nat_tests)

none_of_three : (a b d : Bool) → not (a || b || d) ≡ true → (a ≡ false) × (b ≡ false) × (d ≡ false)
none_of_three false false false e = (refl, refl, refl)
none_of_three false false true e = absurd (true≢false (sym e))
none_of_three false true d e = absurd (true≢false (sym e))
none_of_three true b d e = absurd (true≢false (sym e))

plain_begins : (c : ℕ) → begins_plain c ≡ true → (begins_alias c ≡ false) × (begins_properties c ≡ false) × (begins_content c ≡ false)
unfolding begins_plain
plain_begins c e = none_of_three (begins_alias c) (begins_properties c) (begins_content c) e

opening_one : (c : ℕ) (a b : Bool) → c ≡ opening a → c ≡ opening b → b ≡ a
opening_one c true true e f = refl
opening_one c true false e f = absurd (omega arith)
opening_one c false true e f = absurd (omega arith)
opening_one c false false e f = refl

opening_no_quote : (c : ℕ) (s : Bool) → c ≡ opening s → (c ≢ 39) × (c ≢ 34)
opening_no_quote c true e = ((λ q. omega arith), (λ q. omega arith))
opening_no_quote c false e = ((λ q. omega arith), (λ q. omega arith))

comma_no_closing : (c : ℕ) (s : Bool) → c ≡ 44 → c ≢ closing s
comma_no_closing c true e q = omega arith
comma_no_closing c false e q = omega arith

pair_key_one : {t : List ℕ} {c : Ctx} {i : ℕ} {f : ParsedNode} (j k : ℕ) → PairKey t c i f j → PairKey t c i f k → k ≡ j
pair_key_one {t} j k a b =
    (many_unique t is_white b.run (ap is_white b.colon.colon ∙ colon_no_white) a.run (ap is_white a.colon.colon ∙ colon_no_white)).0

-- no sign, or one with no separation after it
unsigned : (R : Outcomes) (t : List ℕ) (e i : ℕ) (n : ℤ) (c : Ctx) (o : Option ParsedNode) → (code t i ≡ 63 → Stuck (Separate t n c (i + 1)))
    → UnsignedWay R t e n c i o → ItemWay R t e n c i o
unsigned R t e i n c o a w = ⊎_elim (λ (q : code t i ≡ 63). one_way q (not_taken (a q) w)) (λ (q : code t i ≢ 63). other_way q w) (cases_eq (code t i) 63)

-- each outcome has a way of its task; the facts about the outcomes of the tasks that it calls must follow from their
-- ways
ways : {R : Outcomes} {t : List ℕ} {e : ℕ} {task : Task} {o : Option ParsedNode}
    → ((d : ℕ) (other : Task) (p : Option ParsedNode) → Parses t d other p → Way R t d other p → R d other p)
    → Parses t e task o → Way R t e task o
unfolding plain_found
ways r (Parser.alias_read {j = j} {name = x} a) = one_way (alias_begins a.derived) (taken j x a (record { known = refl }))
ways r (Parser.alias_missed a s) = one_way a (not_taken s (record { known = refl }))
ways r (Parser.plain_read {j = j} {x = x} a p) = let b = plain_begins _ a in other_way b.0 (other_way b.1 (other_way b.2 (taken j x p (record { known = refl }))))
ways r (Parser.plain_missed a s) = let b = plain_begins _ a in other_way b.0 (other_way b.1 (other_way b.2 (not_taken s (record { known = refl }))))
ways r (Parser.content_read a p) = other_way (content_no_alias _ a) (other_way (content_no_properties _ a) (one_way a (r _ _ _ p (ways r p))))
ways r (Parser.properties_missed a s) = other_way (properties_no_alias _ a) (one_way a (not_taken s (record { known = refl })))
ways r (Parser.properties_content {g = g} {k = k} {p = p} {cs = cs} {f = f} a s b q) =
    let l = properties_begin a.derived in
    other_way (properties_no_alias _ l) (one_way l (taken g p a (taken k cs s (one_way b (finds f (r _ _ _ q (ways r q)) (record { known = refl }))))))
ways r (Parser.properties_plain {g = g} {k = k} {j = j} {p = p} {cs = cs} {x = x} a s b q) =
    let l = properties_begin a.derived in
    other_way (properties_no_alias _ l) (one_way l (taken g p a (taken k cs s (other_way b (taken j x q (record { known = refl }))))))
ways r (Parser.properties_end {g = g} {p = p} a s) =
    let l = properties_begin a.derived in
    other_way (properties_no_alias _ l) (one_way l (taken g p a (not_taken s (record { known = refl }))))
ways r (Parser.properties_before_broken {g = g} {k = k} {p = p} {cs = cs} a s b q) =
    let l = properties_begin a.derived in
    other_way (properties_no_alias _ l) (one_way l (taken g p a (taken k cs s (one_way b (finds_none (r _ _ _ q (ways r q)) (record { known = refl }))))))
ways r (Parser.properties_before_other {g = g} {k = k} {p = p} {cs = cs} a s b q) =
    let l = properties_begin a.derived in
    other_way (properties_no_alias _ l) (one_way l (taken g p a (taken k cs s (other_way b (not_taken q (record { known = refl }))))))
ways r (Parser.single_read {j = j} {x = x} d) = one_way d.derived.opening (taken j x d (record { known = refl }))
ways r (Parser.single_missed a s) = one_way a (not_taken s (record { known = refl }))
ways r (Parser.double_read {j = j} {x = x} d) =
    let a = d.derived.opening in other_way (λ q. omega arith) (one_way a (taken j x d (record { known = refl })))
ways r (Parser.double_missed a s) = other_way (λ q. omega arith) (one_way a (not_taken s (record { known = refl })))
ways r (Parser.too_deep sequence a) =
    let b = opening_no_quote _ sequence a in other_way b.0 (other_way b.1 (flagged sequence a (at_zero refl (record { known = refl }))))
ways r (Parser.collection_read {e = e} {k = k} sequence {cs = cs} {f = f} a g p) =
    let b = opening_no_quote _ sequence a in
    other_way b.0 (other_way b.1 (flagged sequence a (below e refl (past k cs g (finds f (r _ _ _ p (ways r p)) (record { known = refl }))))))
ways r (Parser.collection_missed {e = e} {k = k} sequence cs a g p) =
    let b = opening_no_quote _ sequence a in
    other_way b.0 (other_way b.1 (flagged sequence a (below e refl (past k cs g (finds_none (r _ _ _ p (ways r p)) (record { known = refl }))))))
ways r (Parser.entries_end a) = one_way a (record { known = refl })
ways r (Parser.entry_missed a p) = other_way a (finds_none (r _ _ _ p (ways r p)) (record { known = refl }))
ways r (Parser.entry_last {k = k} {cs = cs} {f = f} a p g b) = other_way a (finds f (r _ _ _ p (ways r p)) (past k cs g (one_way b (record { known = refl }))))
ways r (Parser.entry_then {k = k} {m = m} {sequence = s} {cs = cs} {ds = ds} {f = f} {g = g} a p h b l q) =
    other_way a (finds f (r _ _ _ p (ways r p)) (past k cs h (other_way (comma_no_closing _ s b) (one_way b (past m ds l (finds g (r _ _ _ q (ways r q)) (record { known = refl })))))))
ways r (Parser.entry_then_missed {k = k} {m = m} {sequence = s} cs ds {f = f} a p h b l q) =
    other_way a (finds f (r _ _ _ p (ways r p)) (past k cs h (other_way (comma_no_closing _ s b) (one_way b (past m ds l (finds_none (r _ _ _ q (ways r q)) (record { known = refl })))))))
ways r (Parser.entry_unclosed {k = k} cs {f = f} a p h b d) =
    other_way a (finds f (r _ _ _ p (ways r p)) (past k cs h (other_way b (other_way d (record { known = refl })))))
ways r (Parser.mapping_explicit {k = k} {cs = cs} {f = f} a s p) = one_way a (taken k cs s (finds f (r _ _ _ p (ways r p)) (record { known = refl })))
ways r (Parser.mapping_explicit_missed {k = k} cs a s p) = one_way a (taken k cs s (finds_none (r _ _ _ p (ways r p)) (record { known = refl })))
ways r (Parser.mapping_sign_alone a s p) = one_way a (not_taken s (r _ _ _ p (ways r p)))
ways r (Parser.mapping_implicit a p) = other_way a (r _ _ _ p (ways r p))
ways r (Parser.explicit_nothing a) = one_way a (record { known = refl })
ways r (Parser.explicit_something a p) = other_way a (r _ _ _ p (ways r p))
ways r (Parser.lone_value {f = f} a p) = one_way a (finds f (r _ _ _ p (ways r p)) (record { known = refl }))
ways r (Parser.key_missed a p) = other_way a (finds_none (r _ _ _ p (ways r p)) (record { known = refl }))
ways r (Parser.key_with_value {k = k} {cs = cs} {f = f} {g = g} a p h b q) =
    other_way a (finds f (r _ _ _ p (ways r p)) (past k cs h (one_way b (finds g (r _ _ _ q (ways r q)) (record { known = refl })))))
ways r (Parser.key_without_value {k = k} cs {f = f} a p h b) =
    other_way a (finds f (r _ _ _ p (ways r p)) (past k cs h (other_way b (record { known = refl }))))
ways r (Parser.pair_explicit {e = e} {k = k} {cs = cs} {f = f} a s p) =
    one_way a (taken k cs s (below e refl (finds f (r _ _ _ p (ways r p)) (record { known = refl }))))
ways r (Parser.pair_explicit_missed {e = e} {k = k} cs a s p) =
    one_way a (taken k cs s (below e refl (finds_none (r _ _ _ p (ways r p)) (record { known = refl }))))
ways r (Parser.pair_explicit_too_deep {k = k} cs a s) = one_way a (taken k cs s (at_zero refl (record { known = refl })))
ways r (Parser.pair_of_value {e = e} {f = f} a p) =
    let q = a.colon in
    other_way (λ v. omega arith) (one_way a (below e refl (finds f (r _ _ _ p (ways r p)) (record { known = refl }))))
ways r (Parser.pair_of_value_too_deep a) = let q = a.colon in other_way (λ v. omega arith) (one_way a (at_zero refl (record { known = refl })))
ways {R} {t} r (Parser.item_missed {e = e} {i = i} {n = n} {c = c} a b p) = unsigned R t e i n c _ a (other_way b (finds_none (r _ _ _ p (ways r p)) (record { known = refl })))
ways {R} {t} r (Parser.pair_of_key {e = e} {i = i} {k = k} {n = n} {c = c} {f = f} {g = g} a b p key l q) =
    unsigned R t (suc e) i n c _ a (other_way b (finds f (r _ _ _ p (ways r p)) (there k key (one_way (omega arith) (below e refl (finds g (r _ _ _ q (ways r q)) (record { known = refl })))))))
ways {R} {t} r (Parser.pair_too_deep {e = e} {i = i} {k = k} {n = n} {c = c} {f = f} a b p key l) =
    unsigned R t e i n c _ a (other_way b (finds f (r _ _ _ p (ways r p)) (there k key (other_way l (record { known = refl })))))
ways {R} {t} r (Parser.item_read {e = e} {i = i} {n = n} {c = c} {f = f} a b p key) = unsigned R t e i n c _ a (other_way b (finds f (r _ _ _ p (ways r p)) (nowhere key (record { known = refl }))))
ways r (Parser.value_read {k = k} {cs = cs} {f = f} s p) = taken k cs s (finds f (r _ _ _ p (ways r p)) (record { known = refl }))
ways r (Parser.value_empty {k = k} cs s p) = taken k cs s (finds_none (r _ _ _ p (ways r p)) (record { known = refl }))
ways r (Parser.value_adjacent {f = f} s p) = not_taken s (finds f (r _ _ _ p (ways r p)) (record { known = refl }))
ways r (Parser.value_adjacent_empty s p) = not_taken s (finds_none (r _ _ _ p (ways r p)) (record { known = refl }))
ways r (Parser.value_missing s) = not_taken s (record { known = refl })

-- the way of a task
pub way_of : {t : List ℕ} {e : ℕ} {task : Task} {o : Option ParsedNode} → Parses t e task o → Way (Parses t) t e task o
way_of p = ways (λ d other o q w. q) p

-- a task has no other outcome than this
abbrev Only : List ℕ → Outcomes
Only t e task o = (p : Option ParsedNode) → Parses t e task p → o ≡ p

task_agree : (t : List ℕ) (e : ℕ) (task : Task) → Agree (Only t e task) (Parses t e task)
task_agree t e task = record { same = λ o p f r. f p r }

task_same : (t : List ℕ) (e : ℕ) (task : Task) (o p : Option ParsedNode) → Only t e task o → Parses t e task p → o ≡ p
task_same t e task o p f r = f p r

true_false : (b : Bool) → b ≡ true → b ≡ false → ⊥
true_false b x y = true≢false (sym x ∙ y)

module _ (t : List ℕ) (e : ℕ) (n : ℤ) (c : Ctx) where
  after_properties_agree : (i g : ℕ) (p : PropertiesValue) → Agree (AfterProperties (Only t) t e n c i g p) (AfterProperties (Parses t) t e n c i g p)
  after_properties_agree i g p = takes_agree (Separate t n c g)
      (λ k cs. fork_agree (true_false (begins_content (code t k)))
      (finds_agree (task_same t e (Parser.AContent n c k)) (λ f. is_agree) is_agree)
      (takes_agree (Plain t n c k) (λ j x. is_agree) is_agree))
      is_agree

  node_agree : (i : ℕ) → Agree (NodeWay (Only t) t e n c i) (NodeWay (Parses t) t e n c i)
  node_agree i = fork_agree (true_false (begins_alias (code t i)))
      (takes_agree (Alias t i) (λ j x. is_agree) is_agree)
      (fork_agree (true_false (begins_properties (code t i)))
      (takes_agree (Properties t n c i) (λ g p. after_properties_agree i g p) is_agree)
      (fork_agree (true_false (begins_content (code t i)))
      (task_agree t e (Parser.AContent n c i))
      (takes_agree (Plain t n c i) (λ j x. is_agree) is_agree)))

  bracket_agree : (i : ℕ) → Agree (BracketWay (Only t) t e n c i) (BracketWay (Parses t) t e n c i)
  bracket_agree i = flagged_agree (opening_one (code t i))
      (λ s. limited_agree e
      (λ d. past_agree t n c (i + 1) (λ k cs. finds_agree (task_same t d (Parser.TheEntries s n (in_flow c) k)) (λ f. is_agree) is_agree))
      is_agree)

  content_agree : (i : ℕ) → Agree (ContentWay (Only t) t e n c i) (ContentWay (Parses t) t e n c i)
  content_agree i = fork_agree (λ x y. y x)
      (takes_agree (SingleQuoted t n c i) (λ j x. is_agree) is_agree)
      (fork_agree (λ x y. y x)
      (takes_agree (DoubleQuoted t n c i) (λ j x. is_agree) is_agree)
      (bracket_agree i))

  after_entry_agree : (s : Bool) (f : ParsedNode) → Agree (AfterEntry (Only t) t e s n c f) (AfterEntry (Parses t) t e s n c f)
  after_entry_agree s f = past_agree t n c f.end (λ k cs. fork_agree (λ x y. y x)
      is_agree
      (fork_agree (λ x y. y x)
      (past_agree t n c (k + 1) (λ m ds. finds_agree (task_same t e (Parser.TheEntries s n c m)) (λ g. is_agree) is_agree))
      is_agree))

  entries_agree : (s : Bool) (i : ℕ) → Agree (EntriesWay (Only t) t e s n c i) (EntriesWay (Parses t) t e s n c i)
  entries_agree s i = fork_agree (λ x y. y x) is_agree
      (finds_agree (task_same t e (Parser.AnEntry s n c i)) (λ f. after_entry_agree s f) is_agree)

  mapping_agree : (i : ℕ) → Agree (MappingWay (Only t) t e n c i) (MappingWay (Parses t) t e n c i)
  mapping_agree i = fork_agree (λ x y. y x)
      (takes_agree (Separate t n c (i + 1)) (λ k cs. finds_agree (task_same t e (Parser.AnExplicit n c i k)) (λ f. is_agree) is_agree)
      (task_agree t e (Parser.AnImplicit n c i i)))
      (task_agree t e (Parser.AnImplicit n c i i))

  node_item_agree : (i : ℕ) (f : ParsedNode) → Agree (NodeItemWay (Only t) t e n c i f) (NodeItemWay (Parses t) t e n c i f)
  node_item_agree i f = somewhere_agree pair_key_one
      (λ k. fork_agree (λ x y. omega arith)
      (limited_agree e (λ d. finds_agree (task_same t d (Parser.AValue f.json n c k)) (λ g. is_agree) never_agree) never_agree)
      is_agree)
      is_agree

  unsigned_agree : (i : ℕ) → Agree (UnsignedWay (Only t) t e n c i) (UnsignedWay (Parses t) t e n c i)
  unsigned_agree i = fork_agree (λ x y. y x)
      (limited_agree e (λ d. finds_agree (task_same t d (Parser.AValue false n c i)) (λ f. is_agree) never_agree) is_agree)
      (finds_agree (task_same t e (Parser.ANode n c i)) (λ f. node_item_agree i f) is_agree)

  item_agree : (i : ℕ) → Agree (ItemWay (Only t) t e n c i) (ItemWay (Parses t) t e n c i)
  item_agree i = fork_agree (λ x y. y x)
      (takes_agree (Separate t n c (i + 1))
      (λ k cs. limited_agree e (λ d. finds_agree (task_same t d (Parser.AnExplicit n c i k)) (λ f. is_agree) is_agree) is_agree)
      (unsigned_agree i))
      (unsigned_agree i)

  explicit_agree : (s i : ℕ) → Agree (ExplicitWay (Only t) t e n c s i) (ExplicitWay (Parses t) t e n c s i)
  explicit_agree s i = fork_agree (true_false ((code t i == 44) || (code t i == 93) || (code t i == 125))) is_agree (task_agree t e (Parser.AnImplicit n c s i))

  after_key_agree : (s : ℕ) (f : ParsedNode) → Agree (AfterKey (Only t) t e n c s f) (AfterKey (Parses t) t e n c s f)
  after_key_agree s f = past_agree t n c f.end (λ k cs. fork_agree (λ x y. y x)
      (finds_agree (task_same t e (Parser.AValue f.json n c k)) (λ g. is_agree) never_agree)
      is_agree)

  implicit_agree : (s i : ℕ) → Agree (ImplicitWay (Only t) t e n c s i) (ImplicitWay (Parses t) t e n c s i)
  implicit_agree s i = fork_agree (λ x y. y x)
      (finds_agree (task_same t e (Parser.AValue false n c i)) (λ f. is_agree) never_agree)
      (finds_agree (task_same t e (Parser.ANode n c i)) (λ f. after_key_agree s f) is_agree)

  adjacent_agree : (json : Bool) (i : ℕ) → Agree (AdjacentWay (Only t) t e json n c i) (AdjacentWay (Parses t) t e json n c i)
  adjacent_agree true i = finds_agree (task_same t e (Parser.ANode n c (i + 1))) (λ f. is_agree) is_agree
  adjacent_agree false i = is_agree

  value_agree : (json : Bool) (i : ℕ) → Agree (ValueWay (Only t) t e json n c i) (ValueWay (Parses t) t e json n c i)
  value_agree json i = takes_agree (Separate t n c (i + 1))
      (λ k cs. finds_agree (task_same t e (Parser.ANode n c k)) (λ f. is_agree) is_agree)
      (adjacent_agree json i)

agree : (t : List ℕ) (e : ℕ) (task : Task) → Agree (Way (Only t) t e task) (Way (Parses t) t e task)
agree t e (Parser.ANode n c i) = node_agree t e n c i
agree t e (Parser.AContent n c i) = content_agree t e n c i
agree t e (Parser.TheEntries s n c i) = entries_agree t e n c s i
agree t e (Parser.AnEntry true n c i) = item_agree t e n c i
agree t e (Parser.AnEntry false n c i) = mapping_agree t e n c i
agree t e (Parser.AnExplicit n c s i) = explicit_agree t e n c s i
agree t e (Parser.AnImplicit n c s i) = implicit_agree t e n c s i
agree t e (Parser.AValue json n c i) = value_agree t e n c json i

-- a task has one outcome within a limit
pub outcome_is_one : {t : List ℕ} {e : ℕ} {task : Task} {o p : Option ParsedNode} → Parses t e task o → Parses t e task p → o ≡ p
outcome_is_one {t} {e} {task} {o} {p} a b =
    let first = ways {R = Only t} (λ d other q x w r y. (agree t d other).same q r w (way_of y)) a in
    (agree t e task).same o p first (way_of b)
