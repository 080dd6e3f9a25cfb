-- The reading of a text has the offsets and spellings that the proofs of the layout require.
use Rattle.std.proofs.Common.{◌≡◌, ℕ, true, List, refl}
use Rattle.std.proofs.lemmas.Bool.{and_from}
use Rattle.std.specs.Str.{IsUtf8}
use Rattle.yf_events.specs.Tree.{DocumentTree}
use Rattle.yf_events.specs.WellPlaced.{begins_node}
use Rattle.yf_events.specs.declared.document.Doc.{Doc}
use Rattle.yf_events.specs.declared.lists.Lists.{Lists}
use Rattle.yf_grammar.specs.Productions.SpellableTexts.{IsSpelled}
use Rattle.yf_grammar.proofs.NodesInText.EventsStand.{events_all}
use Rattle.yf_stream.specs.ReadingOf.{ReadingOf}
use Rattle.yf_stream.proofs.LawsHold.{comments_of_readings_ascend, comments_of_readings_are_within}
use Rattle.yf_stream.proofs.NodeLawsHold.{reading_events}
use Rattle.yf_stream.proofs.Offsets.ReadingTrees.{TreesStand, no_trees_stand, tree_is_at, reading_is_at}
use Rattle.yf_forms.specs.NormalForms.Forms.{documents_are_placed}
use Rattle.yf_laws.specs.Laws.{ReadingsAreOfTexts}
use Rattle.yf_laws.specs.NormalForms.OfText.{marks_in_documents}
use Rattle.yf_forms.specs.NormalForms.Textual.{IsTextual}
use Rattle.yf_laws.proofs.OfTexts.MarksOrder.{rises_in_order, rises_within, trees_rise}
use Rattle.yf_laws.proofs.OfTexts.PlacedTrees.{node_placed}

pub trees_placed : {t : List ℕ} {i : ℕ} {ds : List Doc} {trees : List DocumentTree} → TreesStand t i ds trees → documents_are_placed trees ≡ true
trees_placed (no_trees_stand l) = refl
trees_placed (tree_is_at d a b z) = and_from _ _ (node_placed a) (trees_placed b)

pub reading_is_textual : {t : List ℕ} {r : Lists} → IsUtf8 t → ReadingOf t r → IsTextual r
reading_is_textual {t} {r} u a =
    let w = reading_is_at u a in
    record { trees = w.trees; of_reading = w.of_reading; placed = trees_placed w.stand; comments = comments_of_readings_ascend t r a }

pub readings_are_of_texts : ReadingsAreOfTexts
readings_are_of_texts t r u a =
    let w = reading_is_at u a in
    let rises = trees_rise w.stand in
    let marks : List ℕ = marks_in_documents r.documents w.trees in
    record {
      textual = record { trees = w.trees; of_reading = w.of_reading; placed = trees_placed w.stand; comments = comments_of_readings_ascend t r a };
      order = λ i j d. rises_in_order marks rises i j d;
      within = λ k d l. (rises_within marks k d rises l).1;
      comments = comments_of_readings_are_within t r a;
      spelled = events_all {P = λ e. begins_node e.event ≡ true → IsSpelled e.event e.folded} r.events (reading_events w) (λ e h. h.spelled);
    }
