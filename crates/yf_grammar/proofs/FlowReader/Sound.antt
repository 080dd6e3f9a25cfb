-- The recursive reader is sound: each outcome is derived, within the limit.
use Rattle.std.proofs.Common.{◌≡◌, ℕ, suc, max, ◌+◌, ◌≤◌, ℤ, Bool, true, false, List, [], ◌++◌, Option, Some, None, refl, sym, ap, ◌∙◌, subst, arith}
use Rattle.yf_chars.specs.declared.context.Ctx.{Ctx}
use Rattle.yf_chars.specs.Text.{code}
use Rattle.yf_lines.specs.Basic.{is_block}
use Rattle.yf_comments.specs.Comment.{CommentValue}
use Rattle.yf_plain.specs.Kept.{is_inside}
use Rattle.yf_grammar.specs.Productions.Grammar.{Production, Derives, in_flow, opening, closing}
use Rattle.yf_grammar.specs.Productions.Grammar as Grammar
use Rattle.yf_grammar.specs.Productions.Meaning.{Meaning, ◌⊕◌, meaning_after, noting, collection}
use Rattle.yf_grammar.specs.FlowReader.Parser.{ParsedNode, Task, Parses, Gap, ColonAt, found, plain_found, propertied, lone_properties, bracketed, joined, paired, pair_entry, only}
use Rattle.yf_grammar.specs.FlowReader.Parser as Parser
use Rattle.yf_grammar.proofs.Ends.Forward.{whites_forward}
use Rattle.yf_grammar.proofs.FlowReader.OneLine.{node_of_key}
use Rattle.yf_grammar.proofs.FlowReader.ParserLemmas.{moved, gap_separate, value_separate, whites_in_line, key_on_line, Same, same_refl, same_after, same_before_nothing, same_collection, empty_collection, after_nothing}
use Rattle.yf_grammar.proofs.Ends.WiderLemmas.{inside_not_block, in_flow_inside}

-- the production derives the part that was found, within the limit
pub record Made (t : List ℕ) (e : ℕ) (p : Production) (i : ℕ) (f : ParsedNode) : Type 0 where
  pub derived : Derives t f.height p i f.end f.meaning
  pub within : f.height ≤ e

-- entries up to the closing bracket: none, or some, up to the end of their meaning
pub data Closed (t : List ℕ) (e : ℕ) (sequence : Bool) (n : ℤ) (c : Ctx) (i : ℕ) (f : ParsedNode) : Type 0 where
  closed_at_once : f.end ≡ i → f.height ≡ 0 → f.meaning ≡ only [] i → code t i ≡ closing sequence → Closed t e sequence n c i f
  closed_after : (x : Meaning) → Derives t f.height (Grammar.Entries sequence n c) i f.end x → f.height ≤ e → Same x f.meaning
      → code t f.end ≡ closing sequence → Closed t e sequence n c i f

-- the claim about the outcome of each task
abbrev pub Sound : List ℕ → ℕ → Task → Option ParsedNode → Type 0
Sound t e task None = Unit {0}
Sound t e (Parser.ANode n c i) (Some f) = is_block c ≡ false → Made t e (Grammar.NodeOf f.json n c) i f
Sound t e (Parser.AContent n c i) (Some f) = is_block c ≡ false → (f.json ≡ true) × Made t e (Grammar.JsonContent n c) i f
Sound t e (Parser.TheEntries sequence n c i) (Some f) = is_inside c ≡ true → Closed t e sequence n c i f
Sound t e (Parser.AnEntry sequence n c i) (Some f) = is_inside c ≡ true → Made t e (Grammar.Entry sequence n c) i f
Sound t e (Parser.AnExplicit n c s i) (Some f) = is_inside c ≡ true → Made t e (Grammar.Explicit n c s) i f
Sound t e (Parser.AnImplicit n c s i) (Some f) = is_inside c ≡ true → Made t e (Grammar.Implicit n c s) i f
Sound t e (Parser.AValue json n c i) (Some f) = is_inside c ≡ true → ColonAt t json c i → Made t e (Grammar.ValueOf json n c) i f

json_node : {t : List ℕ} {h i j : ℕ} {json : Bool} {n : ℤ} {c : Ctx} {x : Meaning} → json ≡ true → Derives t h (Grammar.NodeOf true n c) i j x
    → Derives t h (Grammar.NodeOf json n c) i j x
json_node {t} {h} {i} {j} {json} {n} {c} {x} e d = subst (λ b. Derives t h (Grammar.NodeOf b n c) i j x) (sym e) d

-- the brackets round entries
bracket_derived : {t : List ℕ} {e i k : ℕ} {n : ℤ} {c : Ctx} {cs : List CommentValue} {f : ParsedNode} (sequence : Bool) → is_block c ≡ false → code t i ≡ opening sequence
    → Gap t n c (i + 1) k cs → Closed t e sequence n (in_flow c) k f
    → Derives t (suc f.height) (Grammar.JsonContent n c) i (f.end + 1) (collection sequence true i (f.end + 1) (meaning_after cs f.meaning))
bracket_derived {i = i} {k = k} {cs = cs} {f = f} sequence b o g (closed_at_once s h m q) =
    let text : collection sequence true i (k + 1) (record { events = []; comments = cs; escapes = []; finish = k }) ≡ collection sequence true i (f.end + 1) (meaning_after cs f.meaning) =
    rw (s, m) (empty_collection sequence i (k + 1) k cs) in
    moved (ap suc (sym h)) (ap (λ w. w + 1) (sym s)) text (Grammar.an_empty_collection sequence b o (gap_separate g) q)
bracket_derived {i = i} {cs = cs} {f = f} sequence b o g (closed_after x d w s q) =
    moved refl refl (same_collection sequence i (f.end + 1) cs s) (Grammar.a_collection sequence b o (gap_separate g) d q)

closed_within : {t : List ℕ} {e i : ℕ} {n : ℤ} {c : Ctx} {f : ParsedNode} (sequence : Bool) → Closed t e sequence n c i f → f.height ≤ e
closed_within sequence (closed_at_once s h m q) = omega arith
closed_within sequence (closed_after x d w s q) = w

-- an entry, a comma and the text after it
joined_closed : {t : List ℕ} {e i k m : ℕ} {sequence : Bool} {n : ℤ} {c : Ctx} {cs ds : List CommentValue} {f g : ParsedNode} → Made t e (Grammar.Entry sequence n c) i f
    → Gap t n c f.end k cs → code t k ≡ 44 → Gap t n c (k + 1) m ds → Closed t e sequence n c m g
    → Closed t e sequence n c i (record { end = g.end; height = max f.height g.height; json = true; meaning = noting f.meaning (cs ++ ds) ⊕ g.meaning })
joined_closed {t} {i = i} {m = j} {sequence = sequence} {n = n} {c = c} {cs = cs} {ds = ds} {f = f} {g = g} d a b l (closed_at_once s h m q) =
    let v = d.within in
    let height : f.height ≡ max f.height g.height = omega arith in
    let same : Same (noting f.meaning (cs ++ ds)) (noting f.meaning (cs ++ ds) ⊕ g.meaning) = rw m (same_before_nothing (noting f.meaning (cs ++ ds)) j) in
    closed_after (noting f.meaning (cs ++ ds)) (moved height (sym s) refl (Grammar.last_entry_with_comma d.derived (gap_separate a) b (gap_separate l))) (omega arith) same
    (ap (code t) s ∙ q)
joined_closed {cs = cs} {ds = ds} {f = f} {g = g} d a b l (closed_after x r w s q) =
    let v = d.within in
    closed_after (noting f.meaning (cs ++ ds) ⊕ x) (Grammar.more_entries d.derived (gap_separate a) b (gap_separate l) r) (omega arith) (same_after (noting f.meaning (cs ++ ds)) s) q

pub sound : {t : List ℕ} {e : ℕ} {task : Task} {o : Option ParsedNode} → Parses t e task o → Sound t e task o
unfolding found plain_found propertied lone_properties bracketed joined paired pair_entry
sound (Parser.alias_read a) = λ b. record { derived = Grammar.an_alias b a.derived; within = omega arith }
sound (Parser.alias_missed a s) = tt
sound (Parser.plain_read a p) = λ b. record { derived = Grammar.a_plain p.derived.text; within = omega arith }
sound (Parser.plain_missed a s) = tt
sound (Parser.content_read {o = None} a p) = tt
sound (Parser.content_read {o = Some f} a p) = λ b.
    let m = sound p b in
    record { derived = json_node m.0 (Grammar.a_json m.1.derived); within = m.1.within }
sound (Parser.properties_missed a s) = tt
sound (Parser.properties_content g s a p) = λ b.
    let m = sound p b in
    record { derived = json_node m.0 (Grammar.a_json_with g.derived s.derived m.1.derived); within = m.1.within }
sound (Parser.properties_plain g s a p) = λ b. record { derived = Grammar.a_plain_with g.derived s.derived p.derived.text; within = omega arith }
sound (Parser.properties_end g s) = λ b. record { derived = Grammar.properties_alone b g.derived; within = omega arith }
sound (Parser.properties_before_broken g s a p) = λ b. record { derived = Grammar.properties_alone b g.derived; within = omega arith }
sound (Parser.properties_before_other g s a p) = λ b. record { derived = Grammar.properties_alone b g.derived; within = omega arith }
sound (Parser.single_read d) = λ b. (refl, record { derived = Grammar.a_single d.derived; within = omega arith })
sound (Parser.single_missed a s) = tt
sound (Parser.double_read d) = λ b. (refl, record { derived = Grammar.a_double d.derived; within = omega arith })
sound (Parser.double_missed a s) = tt
sound (Parser.too_deep sequence a) = tt
sound (Parser.collection_read {c = c} sequence a g p) = λ b.
    let m = sound p (in_flow_inside c b) in
    let w = closed_within sequence m in
    (refl, record { derived = bracket_derived sequence b a g m; within = omega arith })
sound (Parser.collection_missed sequence cs a g p) = tt
sound (Parser.entries_end a) = λ q. closed_at_once refl refl refl a
sound (Parser.entry_missed a p) = tt
sound (Parser.entry_last {cs = cs} {f = f} a p g b) = λ q.
    let m = sound p q in
    closed_after (noting f.meaning cs) (Grammar.last_entry m.derived (gap_separate g)) m.within (same_refl (noting f.meaning cs)) b
sound (Parser.entry_then a p g b h r) = λ q. joined_closed (sound p q) g b h (sound r q)
sound (Parser.entry_then_missed cs ds a p g b h r) = tt
sound (Parser.entry_unclosed cs a p g b d) = tt
sound (Parser.mapping_explicit a s p) = λ q. let m = sound p q in record { derived = Grammar.an_explicit_entry a s.derived m.derived; within = m.within }
sound (Parser.mapping_explicit_missed cs a s p) = tt
sound (Parser.mapping_sign_alone {o = None} a s p) = tt
sound (Parser.mapping_sign_alone {o = Some f} a s p) = λ q. let m = sound p q in record { derived = Grammar.an_implicit_entry m.derived; within = m.within }
sound (Parser.mapping_implicit {o = None} a p) = tt
sound (Parser.mapping_implicit {o = Some f} a p) = λ q. let m = sound p q in record { derived = Grammar.an_implicit_entry m.derived; within = m.within }
sound (Parser.explicit_nothing {c = c} a) = λ q. record { derived = Grammar.explicit_without (inside_not_block c q); within = omega arith }
sound (Parser.explicit_something {o = None} a p) = tt
sound (Parser.explicit_something {o = Some f} a p) = λ q. let m = sound p q in record { derived = Grammar.explicit_with m.derived; within = m.within }
sound (Parser.lone_value a p) = λ q. let m = sound p q a in record { derived = Grammar.value_alone m.derived; within = m.within }
sound (Parser.key_missed a p) = tt
sound (Parser.key_with_value {c = c} a p g b r) = λ q.
    let m = sound p (inside_not_block c q) in
    let v = sound r q b in
    let u = m.within in
    let w = v.within in
    record { derived = Grammar.key_and_value m.derived (gap_separate g) v.derived; within = omega arith }
sound (Parser.key_without_value {c = c} cs a p g b) = λ q. let m = sound p (inside_not_block c q) in record { derived = Grammar.key_alone m.derived; within = m.within }
sound (Parser.pair_explicit a s p) = λ q.
    let m = sound p q in
    let w = m.within in
    record { derived = Grammar.a_pair_entry (Grammar.an_explicit_pair a s.derived m.derived); within = omega arith }
sound (Parser.pair_explicit_missed cs a s p) = tt
sound (Parser.pair_explicit_too_deep cs a s) = tt
sound (Parser.pair_of_value a p) = λ q.
    let m = sound p q a in
    let w = m.within in
    record { derived = Grammar.a_pair_entry (Grammar.an_unkeyed_pair m.derived); within = omega arith }
sound (Parser.pair_of_value_too_deep a) = tt
sound (Parser.item_missed a b p) = tt
sound (Parser.pair_of_key {c = c} a b p key l r) = λ q.
    let m = sound p (inside_not_block c q) in
    let v = sound r q key.colon in
    let u = v.within in
    let w = whites_forward key.run in
    let k = node_of_key (key_on_line key) q (omega arith) w m.derived in
    record { derived = Grammar.a_pair_entry (Grammar.a_keyed_pair (Grammar.a_key k (whites_in_line key.run) key.short) v.derived); within = omega arith }
sound (Parser.pair_too_deep a b p key l) = tt
sound (Parser.item_read {c = c} a b p key) = λ q. let m = sound p (inside_not_block c q) in record { derived = Grammar.a_node_entry (Grammar.flow_node m.derived); within = m.within }
sound (Parser.value_read {json = json} {c = c} {cs = cs} s p) = λ q a.
    let m = sound p (inside_not_block c q) in
    record { derived = Grammar.a_value cs a.colon a.follows (value_separate json s.derived) (Grammar.flow_node m.derived); within = m.within }
sound (Parser.value_empty {c = c} cs s p) = λ q a. record { derived = Grammar.empty_value (inside_not_block c q) a.colon a.follows; within = omega arith }
sound (Parser.value_adjacent {c = c} {f = f} s p) = λ q a.
    let m = sound p (inside_not_block c q) in
    record { derived = moved refl refl (after_nothing f.meaning) (Grammar.a_value [] a.colon a.follows Grammar.unseparated (Grammar.flow_node m.derived)); within = m.within }
sound (Parser.value_adjacent_empty {c = c} s p) = λ q a. record { derived = Grammar.empty_value (inside_not_block c q) a.colon a.follows; within = omega arith }
sound (Parser.value_missing {c = c} s) = λ q a. record { derived = Grammar.empty_value (inside_not_block c q) a.colon a.follows; within = omega arith }

-- a flow node that was found is derived, and opens no more collections than the limit
pub found_is_derived : {t : List ℕ} {e i : ℕ} {n : ℤ} {c : Ctx} {f : ParsedNode} → is_block c ≡ false → Parses t e (Parser.ANode n c i) (Some f)
    → Derives t f.height (Grammar.NodeOf f.json n c) i f.end f.meaning × (f.height ≤ e)
found_is_derived b p = let m = sound p b in (m.derived, m.within)
