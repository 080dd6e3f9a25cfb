-- The outermost node is awaited, and nothing has been read.
use Rattle.std.proofs.Common.{◌≡◌, ℕ, ℤ, false, List, [], None, refl, sym, ◌∙◌, subst, arith, append-nil, true≢false}
use Rattle.yf_chars.specs.declared.context.Ctx.{Ctx}
use Rattle.yf_chars.specs.Chain.Chain.{done}
use Rattle.yf_lines.specs.Basic.{LineStart}
use Rattle.yf_comments.specs.Comments.{Blank}
use Rattle.yf_comments.specs.Comments.Blank.{text_begins}
use Rattle.yf_comments.specs.Comments.LineEnd.{from_start}
use Rattle.yf_events.specs.declared.part.Part.{Part}
use Rattle.yf_grammar.specs.Productions.Meaning.{◌⊕◌}
use Rattle.yf_grammar.specs.Productions.ReadParts.Noting.{no_event}
use Rattle.yf_grammar.specs.FlowReader.Parser.{only}
use Rattle.yf_grammar.specs.BlockReader.BlockParser.{Nothing, Indicator, BlockTask, Awaited}
use Rattle.yf_grammar.specs.BlockReader.BlockStack.{outermost}
use Rattle.yf_grammar.specs.BlockReader.BlockStates.{NodeAt, none_within, none_deepens}
use Rattle.yf_grammar.proofs.BlockStack.BlockEntryBegins.{node_is_at}
use Rattle.yf_grammar.proofs.BlockStack.BlockNodeSteps.{node_through}
use Rattle.yf_grammar.proofs.BlockStack.BlockStepNodes.{below_awaits, below_halts}
use Rattle.yf_block.specs.declared.frame.Frame.{Frame}
use Rattle.yf_block.specs.declared.frame.BlockCursor.{BlockCursor}
use Rattle.yf_block.specs.BlockTied.{ReadTied, StackTied, no_frames, EntryTied, no_entry}
use Rattle.yf_block.specs.BlockStepTied.{AheadTied, nothing_held, WantedTied, AtNode}
use Rattle.yf_block.specs.LineTied.{AtBelow}
use Rattle.yf_block.specs.RootTied.{AtBegin, AtRoot}

nothing_indicator : {i : ℕ} → Nothing ≡ Indicator i → ⊥
nothing_indicator e = cc

module _ {t : List ℕ} {n : ℤ} {c : Ctx} {at : ℕ} {progress : BlockCursor} (r : AtRoot t n c at progress) where
  root_read : (part : Part) → ReadTied t part (only [] 0 ⊕ only [] 0) progress part
  unfolding ◌⊕◌ only
  root_read part = record {
    text = r.text;
    floor = r.floor;
    floor_line = λ l. subst (λ z. Blank t z) (sym r.floor) text_begins;
    written = record {
      events = [];
      noting = no_event;
      added = record { events = sym (append-nil part.events); comments = sym (append-nil part.comments); escapes = sym (append-nil part.escapes) };
    };
  }

  root_wanted : WantedTied t progress.floor [] n c Nothing progress.wanted
  root_wanted = record {
    least = r.least;
    out = r.out;
    outer = subst (λ z. AheadTied Nothing z) (sym r.outer) nothing_held;
    entry = subst (λ z. EntryTied t progress.floor None z) (sym r.entry) no_entry;
    within = λ m l. none_within;
    nested = λ e. refl;
    rooted = λ i e q. nothing_indicator e;
    narrow = r.narrow;
  }

  root_stack : (m : ℕ) → StackTied m [] [] progress None
  root_stack m = record { order = none_deepens; frames_tied = no_frames; colons = r.colons; halted = r.halt }

  module _ (d : ℕ) (part : Part) where
    -- within a line
    pub root_node : (LineStart t at → ⊥) → AtNode t d (Awaited false n c Nothing at) part [] at progress part
    root_node i = record {
      layers = [];
      room = d;
      comments = [];
      indentation = n;
      context = c;
      ahead = Nothing;
      halt = None;
      node = subst (λ b. NodeAt t d (Awaited false n c Nothing at) [] d [] (Awaited b n c Nothing at) None) (sym r.compact) (node_is_at outermost refl);
      wanted = root_wanted;
      shallow = λ e. absurd (true≢false (sym e ∙ r.compact));
      inside = i;
      past = let f = r.floor in omega (arith, f);
      last = λ i e. absurd (nothing_indicator e);
      stack = root_stack _;
      read = root_read part;
    }

    -- at the start of a line
    pub root_line : LineStart t at → AtBelow t d (Awaited false n c Nothing at) part [] at progress part
    root_line s = record {
      layers = [];
      room = d;
      comments = [];
      indentation = n;
      context = c;
      ahead = Nothing;
      halt = None;
      node = λ k ds l. node_through (node_is_at outermost refl) (below_awaits l) (below_halts l);
      unended = λ u. absurd (u.none at [] (from_start s done));
      started = λ q. refl;
      wanted = root_wanted;
      last = λ i e. absurd (nothing_indicator e);
      past = let f = r.floor in omega (arith, f);
      stack = root_stack _;
      read = root_read part;
    }

-- the outermost node, with nothing added to the part yet
begun_as : {frames : List Frame} {root new : BlockTask} {before part : Part} (At : BlockTask → Part → List Frame → Type 0) → root ≡ new → before ≡ part → frames ≡ [] → At new part [] → At root before frames
begun_as {frames} {root} {new} {before} {part} At e b f x = subst (λ z. At z before frames) (sym e) (subst (λ z. At new z frames) (sym b) (subst (λ z. At new part z) (sym f) x))

module _ {t : List ℕ} (d : ℕ) {root : BlockTask} {before part : Part} {frames : List Frame} {at : ℕ} {progress : BlockCursor} (a : AtBegin t d root before frames at progress part) where
  pub begins_line : LineStart t at → AtBelow t d root before frames at progress part
  begins_line s = begun_as (λ x y z. AtBelow t d x y z at progress part) a.root_is a.before_is a.alone (root_line a.awaited d part s)

  pub begins_node : (LineStart t at → ⊥) → AtNode t d root before frames at progress part
  begins_node i = begun_as (λ x y z. AtNode t d x y z at progress part) a.root_is a.before_is a.alone (root_node a.awaited d part i)
