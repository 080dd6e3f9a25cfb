-- The laws of the recursive readers hold.
use Rattle.std.proofs.Common.{zero, suc, ◌+◌, ℤ, pos, negsuc, ◌+ℤ◌, ◌≤ℤ◌, refl, arith}
use Rattle.std.proofs.lemmas.Int.{ints}
use Rattle.yf_grammar.specs.BlockReader.BlockParser.{Nothing}
use Rattle.yf_grammar.specs.BlockReader.Halts.{none_open}
use Rattle.yf_grammar.proofs.Laws.{FlowNodesAreChosen, NoFlowNodeIsMissed, KeysAreChosen, NoKeyIsMissed, FlowOutcomesAreOne, WholeNodesAreChosen, DerivedNodesAreWhole, FlowNodesHaveOutcomes, BlockNodesHaveOutcomes, LastHaltsHaveOutcomes, LastHaltsAreChosen, NoBlockNodeIsMissed}
use Rattle.yf_grammar.proofs.BlockOutcomes.BlockHalts.{whole_halts}
use Rattle.yf_grammar.proofs.BlockOutcomes.BlockParts.{no_block_node}
use Rattle.yf_grammar.proofs.BlockOutcomes.BlockStatements.{node_at_end, plain_is_whole}
use Rattle.yf_grammar.proofs.Documents.DerivedNodes.{last_halt_is_chosen}
use Rattle.yf_grammar.proofs.BlockReader.HaltsAnswered.{halts_answered}
use Rattle.yf_grammar.proofs.FlowReader.NodesAnswered.{node_answered}
use Rattle.yf_grammar.proofs.FlowReader.Outcome.{outcome_is_one}
use Rattle.yf_grammar.proofs.Ends.Parts.{found_is_chosen, none_is_stuck, found_is_chosen_key, none_is_no_key}
use Rattle.yf_grammar.proofs.BlockReader.SoundSteps.{Width}
use Rattle.yf_grammar.proofs.BlockReader.WholeAnswered.{whole_answered}

pub flow_nodes_are_chosen : FlowNodesAreChosen
flow_nodes_are_chosen t e i n c f part u b r p = found_is_chosen u b r p.events p.comments p.escapes

pub no_flow_node_is_missed : NoFlowNodeIsMissed
no_flow_node_is_missed t e i n c u b r = none_is_stuck u b r

pub keys_are_chosen : KeysAreChosen
keys_are_chosen t e i c f part u b r p = found_is_chosen_key u b r p.events p.comments p.escapes

pub no_key_is_missed : NoKeyIsMissed
no_key_is_missed t e i c u b r = none_is_no_key u b r

pub flow_outcomes_are_one : FlowOutcomesAreOne
flow_outcomes_are_one t e task o p a b = outcome_is_one a b

wide : (n : ℤ) → pos 0 ≤ℤ (n +ℤ pos 1) → Width n
wide (pos m) l = record { width = m + 1; is = refl }
wide (negsuc zero) l = record { width = 0; is = refl }
wide (negsuc (suc m)) l = absurd (omega (arith, ints))

pub last_halts_are_chosen : LastHaltsAreChosen
last_halts_are_chosen t e i n c f part u b l r p = last_halt_is_chosen u b (wide n l) r p.events p.comments p.escapes

-- a whole node is its own last halt
pub whole_nodes_are_chosen : WholeNodesAreChosen
whole_nodes_are_chosen t e i n c f part u b l r p = last_halts_are_chosen t e i n c f part u b l (whole_halts (plain_is_whole u) r refl none_open) p

pub derived_nodes_are_whole : DerivedNodesAreWhole
derived_nodes_are_whole t h e i j n c x o u d within clear still ends r = node_at_end u d within clear (λ q. still) ends r

pub no_block_node_is_missed : NoBlockNodeIsMissed
no_block_node_is_missed t e i n c u r = no_block_node u r

pub flow_nodes_have_outcomes : FlowNodesHaveOutcomes
flow_nodes_have_outcomes t e i n c u f none = (node_answered u e n c i f).held (λ r. none r.outcome r.read)

pub block_nodes_have_outcomes : BlockNodesHaveOutcomes
block_nodes_have_outcomes t e i n c u none = (whole_answered u e n c Nothing i).held (λ r. none r.outcome r.read)

pub last_halts_have_outcomes : LastHaltsHaveOutcomes
last_halts_have_outcomes t e i n c u none = (halts_answered u e n c Nothing i).held (λ r. none r.outcome r.read)
