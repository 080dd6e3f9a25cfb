-- The result of the awaited node, with the entry that it begins.
use Rattle.std.proofs.Common.{◌≡◌, ℕ, ℤ, Bool, true, false, List, ◌∷◌, Option, refl, sym, subst}
use Rattle.yf_chars.specs.declared.context.Ctx.{Ctx}
use Rattle.yf_events.specs.declared.event.Entry.{Entry}
use Rattle.yf_events.specs.declared.part.Part.{Part}
use Rattle.yf_props.specs.Props.{PropsValue}
use Rattle.yf_grammar.specs.Productions.Meaning.{start_of, event_with}
use Rattle.yf_grammar.specs.FlowReader.FlowContinuations.{Before}
use Rattle.yf_flow.specs.declared.frame.Frame.{Frame}
use Rattle.yf_flow.specs.declared.frame.Node.{Node}
use Rattle.yf_flow.specs.NodeStarts.{is_lined, is_sequence}
use Rattle.yf_flow.specs.NodeParts.{props_before, opened_event, NodeLeaf, NodeOpened, NodeFull}
use Rattle.yf_flow.specs.EntryOfRole.{EntryBegun}
use Rattle.yf_flow.specs.StepTerms.{Reading}
use Rattle.yf_flow.specs.StackMeaning.{NoteOf, NoteFilled, Base, AtEntry, AtNode, AtEnded, NoBase}
use Rattle.yf_flow.proofs.Ends.EntryNotes.{begun_note, node_no_feed, over_no_feed}
use Rattle.yf_flow.proofs.Stack.TiedBegun.{full_fails, opened_entry, leaf_ended}

pub start_no_lines : (props : PropsValue) (sequence : Bool) → is_lined (event_with props (start_of sequence true)) ≡ false
start_no_lines props true = refl
start_no_lines props false = refl

pub opened_noted : {t : List ℕ} (p k : ℕ) (b : Before) (sequence : Bool) {x y : Option Entry} → NoteOf t (opened_event p b x sequence k) (opened_event p b y sequence k)
    → NoteFilled t (opened_event p b x sequence k) (opened_event p b y sequence k)
opened_noted p k b sequence n = record { no_lines = start_no_lines (props_before b) sequence; note = n }

module _ {t : List ℕ} {n : ℤ} {d : Ctx} {base : Base} {frames : List Frame} {top : Frame} {p limit : ℕ} {old : Part} (r : Reading t d limit base) (a : AtNode t n d base frames top p old) where
  begun_here : (entry : Option Entry) → EntryBegun t top.entry top.role entry → EntryBegun t a.layer.start top.role entry
  begun_here entry b = subst (λ z. EntryBegun t z top.role entry) a.entry b

  pub taken_leaf : {new : Part} {entry : Option Entry} {node : Node} → EntryBegun t top.entry top.role entry → NodeLeaf t n d p top.depth entry old new node → AtEnded t n d base frames top node new
  taken_leaf {entry = entry} b l = leaf_ended a l (λ e. begun_note a.layer.start top.role e (begun_here entry b) (λ q. a.begins q (node_no_feed r.no_block (l.read 0))))

  pub taken_opened : {new : Part} {entry : Option Entry} {f : Frame} → EntryBegun t top.entry top.role entry → NodeOpened t n d p top.depth limit entry old new f → {stack : List Frame} → stack ≡ top ∷ frames → AtEntry t n d base stack f f.entry new
  taken_opened {new} {entry} {f} b o e =
      let o' : NodeOpened t n d p top.depth base.total entry old new f = subst (λ z. NodeOpened t n d p top.depth z entry old new f) (sym r.total) o in
      subst (λ z. AtEntry t n d base z f f.entry new) (sym e)
      (opened_entry r.inner a o'
      (opened_noted p o'.content o'.before (is_sequence f.kind) (begun_note a.layer.start top.role (opened_event p o'.before entry (is_sequence f.kind) o'.content) (begun_here entry b) (λ q. a.begins q (over_no_feed o'.over)))))

  pub taken_full : {q : ℕ} → NodeFull t n d p top.depth limit q → NoBase t n base
  taken_full {q} f = full_fails a (subst (λ z. NodeFull t n d p top.depth z q) (sym r.total) f)
