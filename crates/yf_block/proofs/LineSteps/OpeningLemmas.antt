-- A collection of either kind that may not be opened.
use Rattle.std.proofs.Common.{ℕ, ◌+◌, ◌<◌, ◌≤◌, List, length}
use Rattle.std.specs.Str.{IsUtf8}
use Rattle.yf_events.specs.declared.part.Part.{Part}
use Rattle.yf_grammar.specs.BlockReader.BlockParser.{BlockTask}
use Rattle.yf_flow.specs.Depth.{openers_from}
use Rattle.yf_block.specs.declared.frame.Frame.{Frame}
use Rattle.yf_block.specs.declared.frame.CollectionKind.{CollectionKind}
use Rattle.yf_block.specs.declared.frame.CollectionKind.TheVariants.{Sequence, Mapping}
use Rattle.yf_block.specs.declared.frame.BlockCursor.{BlockCursor}
use Rattle.yf_block.specs.BlockStepTied.{AtFailed}
use Rattle.yf_block.specs.OpeningTied.{SignOf, AtOpening}
use Rattle.yf_block.proofs.Runs.CountedSteps.{dash_full, sign_full}
use Rattle.yf_block.proofs.Stack.TiedOpenings.{sequence_full, mapping_is_full}

pub opening_full : {column : ℕ} {t : List ℕ} {d : ℕ} {root : BlockTask} {before part : Part} {frames : List Frame} {p : ℕ} {progress : BlockCursor} (kind : CollectionKind)
    → AtOpening kind column t d root before frames p progress part → SignOf kind t p → d ≤ length frames → AtFailed t d root progress
opening_full Sequence a y l = sequence_full a.start a.column_is y.0 l
opening_full Mapping a y l = mapping_is_full a.start a.column_is y l

pub kind_full : (kind : CollectionKind) (t : List ℕ) (count total limit i : ℕ) → IsUtf8 t → SignOf kind t i → limit ≤ count → count + openers_from t i ≤ total → limit < total
kind_full Sequence t count total limit i u y l q = dash_full t count total limit i u y.0 l q
kind_full Mapping t count total limit i u y l q = sign_full t count total limit i u y l q
