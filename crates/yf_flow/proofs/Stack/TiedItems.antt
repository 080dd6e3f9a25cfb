-- After an item of a sequence: it is an entry, or the key of a single pair.
use Rattle.std.proofs.Common.{◌≡◌, ℕ, max, ◌≤◌, ℤ, Bool, true, false, List, [], Some, None, refl, sym, ap, ◌∙◌, subst, arith}
use Rattle.yf_chars.specs.declared.context.Ctx.{Ctx}
use Rattle.yf_chars.specs.Text.{code}
use Rattle.yf_chars.specs.Class.{is_white}
use Rattle.yf_chars.specs.Chain.{Many}
use Rattle.yf_chars.proofs.ChainLemmas.{many_unique}
use Rattle.yf_events.specs.declared.part.Part.{Part}
use Rattle.yf_grammar.specs.Productions.Meaning.{Meaning, ◌⊕◌, entering}
use Rattle.yf_grammar.specs.FlowReader.Parser.{ParsedNode, PairKey, ANode, AnEntry, Parses, only}
use Rattle.yf_grammar.specs.FlowReader.Parser.Parses.{pair_too_deep}
use Rattle.yf_grammar.specs.FlowReader.FlowContinuations.{IsEntry, with_pair, wrapped, not_yet, Within}
use Rattle.yf_grammar.proofs.FlowStack.AwaitEntries.{entry_fails}
use Rattle.yf_grammar.proofs.FlowStack.AwaitValues.{item_alone, nothing_before}
use Rattle.yf_grammar.proofs.WrittenTexts.LeafBack.{noting_nothing}
use Rattle.yf_flow.specs.declared.frame.Frame.{Frame}
use Rattle.yf_flow.specs.declared.frame.CollectionKind.TheVariants.{Pair}
use Rattle.yf_flow.specs.declared.frame.Node.{Node}
use Rattle.yf_flow.specs.declared.frame.Role.{Role}
use Rattle.yf_flow.specs.declared.frame.Role.TheVariants.{Item, Key, Value}
use Rattle.yf_flow.specs.KeyThere.{KeyThere}
use Rattle.yf_flow.specs.StepTerms.{Reading}
use Rattle.yf_flow.specs.StackMeaning.{in_role, written_in, FramesOfEntry, of_collection, NodeIn, item_in, key_in, value_in, Base, AtEnded, AtEntryDone, NoBase}
use Rattle.yf_flow.proofs.Stack.TiedEnds.{written_as}
use Rattle.yf_flow.proofs.Stack.TiedFails.{all_fails}
use Rattle.yf_flow.proofs.Stack.TiedClose.{frame_depth}
use Rattle.yf_flow.proofs.Stack.TiedNodes.{reaching_framed}
use Rattle.yf_flow.proofs.Stack.TiedPairs.{kind_no_pair}
use Rattle.yf_chars.proofs.CharFacts.{colon_no_white}

pub key_no_item : Key ≡ Item → ⊥
key_no_item e = cc

pub value_no_item : Value ≡ Item → ⊥
value_no_item e = cc

-- the key of a single pair, from the text after the white space that follows it
pub key_of_pair : {t : List ℕ} {d : Ctx} {s k : ℕ} {w : List ℕ} (f : ParsedNode) → Many t is_white f.end k w → KeyThere t d s f.json k → PairKey t d s f k
key_of_pair {w = w} f m q = record { whites = w; run = m; line = q.line.line; short = q.line.short; colon = q.colon }

pub no_key_of_pair : {t : List ℕ} {d : Ctx} {s k : ℕ} {w : List ℕ} (f : ParsedNode) → Many t is_white f.end k w → is_white (code t k) ≡ false → (KeyThere t d s f.json k → ⊥)
    → (m : ℕ) → PairKey t d s f m → ⊥
no_key_of_pair {t} {d} {s} {k} f r z free m q =
    let e = (many_unique t is_white r z q.run (ap is_white q.colon.colon ∙ colon_no_white)).0 in
    free (subst (λ j. KeyThere t d s f.json j) (sym e) (record { colon = q.colon; line = record { line = q.line; short = q.short } }))

item_entry : {t : List ℕ} {n : ℤ} {d : Ctx} {s e p g : ℕ} {role : Role} {sequence pair : Bool} {y : Meaning} (f : ParsedNode) → NodeIn t n d s role sequence e pair p g y → role ≡ Item → Parses t e (ANode n d p) (Some f) → ((k : ℕ) → PairKey t d s f k → ⊥)
    → IsEntry t (with_pair pair e) sequence n d s f.end (with_pair pair (max g f.height)) (wrapped pair s (y ⊕ entering s None f.meaning))
item_entry {t} {n} {d} {s} {e} f (item_in a) q r free =
    let h : f.height ≡ max 0 f.height = omega arith in
    let l : IsEntry t e true n d s f.end (max 0 f.height) (entering s None f.meaning) =
    subst (λ z. IsEntry t e true n d s f.end z (entering s None f.meaning)) h (item_alone a f r free) in
    subst (λ z. IsEntry t e true n d s f.end (max 0 f.height) z) (nothing_before (entering s None f.meaning)) l
item_entry f (key_in a b) q r free = absurd (key_no_item q)
item_entry f (value_in a b) q r free = absurd (value_no_item q)

item_too_deep : {t : List ℕ} {n : ℤ} {d : Ctx} {s e p g : ℕ} {role : Role} {sequence pair : Bool} {y : Meaning} {k : ℕ} (f : ParsedNode) → NodeIn t n d s role sequence e pair p g y → role ≡ Item → Parses t e (ANode n d p) (Some f) → PairKey t d s f k → e ≤ f.height
    → Parses t (with_pair pair e) (AnEntry sequence n d s) None
item_too_deep f (item_in a) q r key l = pair_too_deep a.no_sign a.no_value r key l
item_too_deep f (key_in a b) q r key l = absurd (key_no_item q)
item_too_deep f (value_in a b) q r key l = absurd (value_no_item q)

item_no_pair : {t : List ℕ} {n : ℤ} {d : Ctx} {s e p g : ℕ} {role : Role} {sequence pair : Bool} {y : Meaning} {total h m k : ℕ} {top : Frame} {rest : List Frame} → NodeIn t n d s role sequence e pair p g y → role ≡ Item → FramesOfEntry total sequence pair e h g m k top rest
    → top.kind ≡ Pair → ⊥
item_no_pair (item_in a) q (of_collection f) e = kind_no_pair true _ f.kind e
item_no_pair (key_in a b) q f e = absurd (key_no_item q)
item_no_pair (value_in a b) q f e = absurd (value_no_item q)

entering_finish : (x : Meaning) (s : ℕ) (y : Meaning) → (x ⊕ entering s None y).finish ≡ y.finish
unfolding ◌⊕◌ entering
entering_finish x s y = refl

module _ {t : List ℕ} {n : ℤ} {d : Ctx} {base : Base} {frames : List Frame} {top : Frame} {node : Node} {old : Part} (a : AtEnded t n d base frames top node old) (v : top.role ≡ Item) where
  pub item_is_no_pair : (o : Frame) → o.kind ≡ top.kind → o.kind ≡ Pair → ⊥
  item_is_no_pair o k e = item_no_pair a.awaited v a.tied.framed (sym k ∙ e)

  pub item_read_done : ((k : ℕ) → PairKey t d a.layer.start a.answer k → ⊥) → (o : Frame) → o.kind ≡ top.kind → o.event ≡ top.event → o.depth ≡ top.depth
      → o.deepest ≡ max top.deepest node.deepest → AtEntryDone t n d base frames o node.end node.end old
  item_read_done free o k ev de hi = record {
    layer = a.layer;
    height = max a.height a.answer.height;
    meaning = a.read ⊕ entering a.layer.start None a.answer.meaning;
    end = a.answer.end;
    comments = [];
    tied = record {
      rest = a.tied.rest;
      below = a.tied.below;
      entries = a.tied.entries;
      open_there = a.tied.open_there;
      framed = reaching_framed o a.answer.height node.deepest a.deepest k ev de hi a.tied.framed;
      all = a.tied.all;
    };
    entry = item_entry a.answer a.awaited v a.parsed free;
    finish = entering_finish a.read a.layer.start a.answer.meaning ∙ a.finish ∙ sym a.end;
    within = subst (λ z. Within t n d a.answer.end z []) (sym a.end) not_yet;
    written = written_as (ap (λ r. written_in a.layer (a.read ⊕ in_role r a.layer.start a.answer.meaning)) v ∙ ap (λ z. written_in a.layer z) (sym (noting_nothing (a.read ⊕ entering a.layer.start None a.answer.meaning)))) a.written;
  }

  pub item_deep_fails : {k limit : ℕ} → Reading t d limit base → PairKey t d a.layer.start a.answer k → limit ≤ max top.depth node.deepest → NoBase t n base
  item_deep_fails r key l =
      let z = frame_depth a.tied.framed in
      let l' : a.layer.limit ≤ a.answer.height = omega (arith, r.total, a.deepest) in
      all_fails a.tied.below (entry_fails a.tied.entries a.tied.open_there (item_too_deep a.answer a.awaited v a.parsed key l'))

module _ {t : List ℕ} {n : ℤ} {d : Ctx} {base : Base} {frames : List Frame} {top : Frame} {node : Node} {old : Part} (a : AtEnded t n d base frames top node old) {k : ℕ} {w : List ℕ} (m : Many t is_white node.end k w) where
  run_there : Many t is_white a.answer.end k w
  run_there = subst (λ z. Many t is_white z k w) a.end m

  pub ended_key : KeyThere t d top.entry node.json k → PairKey t d a.layer.start a.answer k
  ended_key q =
      let x : KeyThere t d a.layer.start node.json k = subst (λ z. KeyThere t d z node.json k) a.entry q in
      key_of_pair a.answer run_there (subst (λ z. KeyThere t d a.layer.start z k) a.json x)

  pub ended_no_key : is_white (code t k) ≡ false → (KeyThere t d top.entry node.json k → ⊥) → (j : ℕ) → PairKey t d a.layer.start a.answer j → ⊥
  ended_no_key z f =
      no_key_of_pair a.answer run_there z
      (λ q. let x : KeyThere t d a.layer.start node.json k = subst (λ j. KeyThere t d a.layer.start j k) (sym a.json) q in
      f (subst (λ j. KeyThere t d j node.json k) (sym a.entry) x))
