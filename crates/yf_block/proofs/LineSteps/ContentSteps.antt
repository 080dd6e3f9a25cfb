-- The steps of the reader on a line, as their functions take them.
use Rattle.std.proofs.Common.{◌≡◌, ℕ, ℤ, pos, ◌<◌, true, false, List, ◌++◌, Option, Some, None, refl, sym, ◌∙◌, subst, arith, ◌⊎◌, inl, inr, ⊎_elim}
use Rattle.std.proofs.lemmas.Option.{same_Some}
use Rattle.std.specs.Str.{IsUtf8}
use Rattle.yf_chars.specs.declared.context.Ctx.TheVariants.{FlowOut}
use Rattle.yf_chars.specs.Text.{code}
use Rattle.yf_chars.specs.Class.{is_white}
use Rattle.yf_chars.specs.Chain.{Many}
use Rattle.yf_plain.proofs.PlainLemmas.{no_front}
use Rattle.yf_plain.proofs.LineLemmas.{no_plain}
use Rattle.yf_events.specs.declared.event.Entry as TheEntry
use Rattle.yf_events.specs.declared.part.Part.{Part}
use Rattle.yf_grammar.specs.Productions.Meaning.{◌⊕◌}
use Rattle.yf_grammar.specs.FlowReader.Parser.{only, begins_alias, begins_content}
use Rattle.yf_grammar.specs.BlockReader.BlockParser.{DashAt, SignAt, Ahead, Columns, NoSign, NoKeyAt, BlockTask}
use Rattle.yf_grammar.proofs.BlockContent.BlockScalars.{sign_no_first}
use Rattle.yf_flow.specs.NodeStarts.{plain_missing}
use Rattle.yf_flow.specs.declared.frame.Node.{Node}
use Rattle.yf_flow.specs.declared.node.Lead.{Lead}
use Rattle.yf_block.specs.declared.content.AfterProperties.{AfterProperties}
use Rattle.yf_block.specs.declared.content.NodeFacts.{NodeFacts}
use Rattle.yf_block.specs.declared.content.Belonging.{Belonging}
use Rattle.yf_block.specs.declared.content.Belonging.TheVariants.{Nothing as NoBelonging, Joined, Apart as ApartBelonging}
use Rattle.yf_block.specs.declared.frame.Frame.{Frame}
use Rattle.yf_block.specs.declared.frame.BlockCursor.{BlockCursor}
use Rattle.yf_block.specs.declared.properties.PlacedProperties.{PlacedProperties}
use Rattle.yf_block.specs.BlockTied.{layers_entry, all_written, ReadTied, EntryTied}
use Rattle.yf_block.specs.BlockStepTied.{AtFailed}
use Rattle.yf_block.specs.BelongingTied.{OthersBefore, BelongingTied}
use Rattle.yf_block.specs.ContentTied.{TextAfter, text_alone, text_held, AtAfterProperties, AtInline, AtFirstKey, ScalarSignAt, LeafEnding}
use Rattle.yf_block.specs.PropertiesAnswers.{LineProperties}
use Rattle.yf_block.specs.InlineAnswers.{KeyEnds, InlineLost}
use Rattle.yf_block.specs.InlineAnswers as Answers
use Rattle.yf_block.specs.InlineTied.{AtStart, EntrySignAt}
use Rattle.yf_block.specs.ScalarTied.{AtScalar}
use Rattle.yf_block.proofs.LineSteps.ContentEnds.{after_order, leaf_ending}
use Rattle.yf_block.proofs.LineSteps.ContentFails.{inline_fails, apart_fails}
use Rattle.yf_block.proofs.LineSteps.ContentKeys.{too_many_open, no_key_there}
use Rattle.yf_block.proofs.LineSteps.ContentLeaves.{leaf_task, after_comments, LeafAhead, ahead_of_none, ahead_of_all}
use Rattle.yf_block.proofs.LineSteps.ContentNodes.{node_here, lost_keyless, no_key_here}
use Rattle.yf_block.proofs.Ends.KeyNodes.{after_later}
use Rattle.yf_block.proofs.LineSteps.TiedScalar.{bar_is}
use Rattle.yf_chars.proofs.Tests.{some_none}

-- properties on the line
pub text_properties : {t : List ℕ} {p at : ℕ} {inner : Option PlacedProperties} → TextAfter t p inner at → (h : PlacedProperties) → inner ≡ Some h → LineProperties t p h
text_properties (text_alone s) h q = absurd (some_none (sym q))
text_properties {t} {p} (text_held l s b) h q = subst (λ z. LineProperties t p z) (same_Some _ _ q) l

pub signless_there : {t : List ℕ} {cols : Columns} {p : ℕ} {column : Option ℕ} → cols.mapping ≡ column → ((m : ℕ) → cols.sequence ≡ Some m → DashAt t p → ⊥) → ((m : ℕ) → column ≡ Some m → EntrySignAt t p → ⊥) → NoSign t cols p
signless_there q f g = record {
  no_dash = λ {m} e y. f m e y;
  no_question = λ {m} e y. g m (sym q ∙ e) (inl y);
  no_colon = λ {m} e y. g m (sym q ∙ e) (inr y);
}

-- the state ahead of a node that is not a key, unless the properties don't go together
pub leaf_ahead : {t : List ℕ} {p at : ℕ} {a : Ahead} {inner : Option PlacedProperties} {entry : Option TheEntry.Entry} {lead : Lead} (belonging : Belonging) → TextAfter t p inner at → BelongingTied t p at a inner entry lead belonging → (belonging ≡ ApartBelonging → ⊥)
    → LeafAhead t p at a inner entry lead
leaf_ahead NoBelonging x s f = ahead_of_none x s
leaf_ahead Joined x s f = ahead_of_all s
leaf_ahead ApartBelonging x s f = absurd (f refl)

others_there : {t : List ℕ} {p at : ℕ} {a : Ahead} {inner : Option PlacedProperties} {entry : Option TheEntry.Entry} {lead : Lead} (belonging : Belonging) → BelongingTied t p at a inner entry lead belonging → belonging ≡ ApartBelonging → OthersBefore t p at a inner entry lead
others_there {t} {p} {at} {a} {inner} {entry} {lead} belonging s e = subst (λ z. BelongingTied t p at a inner entry lead z) e s

bar_no_colon : {t : List ℕ} {p : ℕ} → ScalarSignAt t p → SignAt t 58 p → ⊥
bar_no_colon s y = let c = y.sign_is_at in ⊎_elim (λ e. omega (arith, e, c)) (λ e. omega (arith, e, c)) s

bar_content : (c : ℕ) → (c ≡ 124) ⊎ (c ≡ 62) → begins_content c ≡ false
unfolding begins_content
bar_content c s = ⊎_elim (λ (e : c ≡ 124). rw e refl) (λ (e : c ≡ 62). rw e refl) s

bar_alias : (c : ℕ) → (c ≡ 124) ⊎ (c ≡ 62) → begins_alias c ≡ false
unfolding begins_alias
bar_alias c s = ⊎_elim (λ (e : c ≡ 124). rw e refl) (λ (e : c ≡ 62). rw e refl) s

-- only a block scalar begins with its sign
bar_lost : {t : List ℕ} {e at : ℕ} {n : ℤ} {inner : Option PlacedProperties} → ScalarSignAt t at → InlineLost t e n at inner
bar_lost {t} {at = at} s = Answers.content_lost (λ h q y. bar_no_colon s y) (bar_alias (code t at) s) (plain_missing (bar_content (code t at) s) (no_plain (no_front (sign_no_first t FlowOut at (bar_is (code t at) s)))))

module _ {t : List ℕ} {d : ℕ} {root : BlockTask} {before part : Part} {frames : List Frame} {b : AfterProperties} {progress : BlockCursor} (a : AtAfterProperties b t d root before frames b.node_start.at progress part) where
  abbrev start : AtStart t d root before frames a.content.cols b.node_start.at progress part
  start = a.content.start

  utf8 : IsUtf8 t
  utf8 = start.read.text.utf8

  bar_no_key : ScalarSignAt t b.at → NoKeyAt t start.room start.indentation a.content.cols b.node_start.at
  bar_no_key s = no_key_here a.text (lost_keyless utf8 a.text (bar_lost s))

  -- a block scalar with properties that don't go together
  pub scalar_apart : (entry : Option TheEntry.Entry) (lead : Lead) (belonging : Belonging) → BelongingTied t b.node_start.at b.at start.ahead b.inner entry lead belonging → belonging ≡ ApartBelonging → ScalarSignAt t b.at → AtFailed t d root progress
  scalar_apart entry lead belonging s e y = apart_fails start a.content.signless a.text (bar_no_key y) (others_there belonging s e)

  -- a block scalar that may be the node
  pub scalar_there : {lead : Lead} (belonging : Belonging) → BelongingTied t b.node_start.at b.at start.ahead b.inner progress.wanted.entry lead belonging → (belonging ≡ ApartBelonging → ⊥) → ScalarSignAt t b.at
      → AtScalar t d root before frames lead progress.wanted.least b.at progress part
  scalar_there {lead} belonging s f y =
      let v = leaf_ahead belonging a.text s f in
      let past = start.past in
      let order = after_order a.text in
      record {
        layers = start.layers;
        room = start.room;
        comments = start.comments;
        indentation = start.indentation;
        ahead = v.ahead;
        halt = start.halt;
        node = leaf_task start a.content.signless a.text (bar_no_key y) v.joined (later a.text y);
        least_is = start.wanted.least;
        narrow = start.wanted.narrow;
        sign = y;
        lead_is = v.tied;
        entry = subst (λ z. EntryTied t progress.floor (layers_entry start.layers) z) (sym v.entry_is) start.wanted.entry;
        past = omega (arith, past, order);
        stack = start.stack;
        read = subst (λ z. ReadTied t before (all_written start.layers ⊕ only (start.comments ++ z) 0) progress part) (sym (after_comments v.joined)) start.read;
      } where
        later : {j : Option PlacedProperties} {k : ℕ} → TextAfter t b.node_start.at j k → ScalarSignAt t k → (held : PlacedProperties) → j ≡ Some held → held.end < k
        later (text_alone q) w held z = absurd (some_none (sym z))
        later (text_held {held = h} {at = m} l q k) w held z = subst (λ (g : PlacedProperties). g.end < m) (same_Some _ _ z) (after_later utf8 l q k (λ c. bar_no_colon w c))

  -- no node was read
  pub nothing_read : InlineLost t start.room (pos progress.wanted.least) b.at b.inner → (ScalarSignAt t b.at → ⊥) → AtFailed t d root progress
  nothing_read i n = inline_fails start a.content.signless a.text i n

module _ {t : List ℕ} {d : ℕ} {root : BlockTask} {before old : Part} {frames : List Frame} {depth : ℕ} {b : AfterProperties} {facts : NodeFacts} {node : Node} {progress : BlockCursor} {earlier : Part}
    (a : AtInline t d root before frames depth b facts node progress earlier old) where
  abbrev begins : AtStart t d root before frames a.there.content.cols b.node_start.at progress earlier
  begins = a.there.content.start

  -- it is a key, and opens too many collections
  pub key_too_many : {column colon : ℕ} {w : List ℕ} → b.node_start.column ≡ Some column → Many t is_white node.end colon w → KeyEnds t b.node_start.at colon → (node.deepest < d → depth < d → ⊥) → AtFailed t d root progress
  key_too_many q m e f = too_many_open begins a.there.content.signless (node_here begins.read.text.utf8 a.there.text a.read).1 (a.there.content.column_is ∙ q) m e a.depth_is f

  no_key : {colon : ℕ} {w : List ℕ} → Many t is_white node.end colon w → is_white (code t colon) ≡ false → ((m : ℕ) → b.node_start.column ≡ Some m → KeyEnds t b.node_start.at colon → ⊥)
      → NoKeyAt t begins.room begins.indentation a.there.content.cols b.node_start.at
  no_key m f k = no_key_there begins a.there.content.signless (node_here begins.read.text.utf8 a.there.text a.read).1 a.there.content.column_is m f k

  -- the node is not a key, and its properties don't go together
  pub leaf_apart : {colon : ℕ} {w : List ℕ} → Many t is_white node.end colon w → is_white (code t colon) ≡ false → ((m : ℕ) → b.node_start.column ≡ Some m → KeyEnds t b.node_start.at colon → ⊥) → facts.belonging ≡ ApartBelonging
      → AtFailed t d root progress
  leaf_apart m f k e = apart_fails begins a.there.content.signless a.there.text (no_key m f k) (others_there facts.belonging a.belonging e)

  -- the node is not a key, and its properties go together
  pub leaf_there : {colon : ℕ} {w : List ℕ} {plain : Option ℕ} {after : BlockCursor} → Many t is_white node.end colon w → is_white (code t colon) ≡ false → ((m : ℕ) → b.node_start.column ≡ Some m → KeyEnds t b.node_start.at colon → ⊥)
      → (facts.belonging ≡ ApartBelonging → ⊥) → (node.json ≡ true → plain ≡ None) → (node.json ≡ false → plain ≡ Some b.at) → after.last ≡ node.end → after.floor ≡ progress.floor → after.colons ≡ progress.colons
      → after.halt ≡ progress.halt → LeafEnding plain t d root before frames node.end after old
  leaf_there m f k e json plain_there last fl co ha =
      leaf_ending begins a.there.content.signless a.there.text a.no_scalar (no_key m f k) (leaf_ahead facts.belonging a.there.text a.belonging e) json plain_there last fl co ha a.read

  -- its value is awaited, if the limit allows its collections
  pub first_key_there : {column colon : ℕ} {w : List ℕ} → b.node_start.column ≡ Some column → Many t is_white node.end colon w → KeyEnds t b.node_start.at colon → node.deepest < d → depth < d
      → AtFirstKey t d root before frames depth b facts column colon progress earlier old
  first_key_there q m e x y = record { node = node; inline = a; column_is = q; whites = _; run = m; ends = e; within = x; open_there = y }
