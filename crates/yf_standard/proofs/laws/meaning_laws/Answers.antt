use Rattle.yf_standard.proofs.ContentLawsHold.{plain_contents, single_contents, double_contents, literal_contents, folded_contents}
use Rattle.yf_standard.proofs.TokenLawsHold.{comment_tokens, separate_tokens, alias_tokens, property_tokens}
use Rattle.yf_standard.proofs.ScalarsMean.{literal_scalars, folded_scalars}
use Rattle.yf_standard.proofs.NodeLawsHold.{flow_nodes, block_nodes}
use Rattle.yf_standard.proofs.StreamLawsHold.{stream_tokens, readings_are_said}
use Rattle.yf_standard.proofs.laws.meaning_laws.Goals as goal

pub returns-clause-plain : goal.returns-clause-plain
returns-clause-plain c = plain_contents

pub returns-clause-single : goal.returns-clause-single
returns-clause-single c = single_contents

pub returns-clause-double : goal.returns-clause-double
returns-clause-double c = double_contents

pub returns-clause-literal : goal.returns-clause-literal
returns-clause-literal c = literal_contents

pub returns-clause-folded : goal.returns-clause-folded
returns-clause-folded c = folded_contents

pub returns-clause-comments : goal.returns-clause-comments
returns-clause-comments c = comment_tokens

pub returns-clause-separation : goal.returns-clause-separation
returns-clause-separation c = separate_tokens

pub returns-clause-aliases : goal.returns-clause-aliases
returns-clause-aliases c = alias_tokens

pub returns-clause-properties : goal.returns-clause-properties
returns-clause-properties c = property_tokens

pub returns-clause-literals : goal.returns-clause-literals
returns-clause-literals c = literal_scalars

pub returns-clause-foldeds : goal.returns-clause-foldeds
returns-clause-foldeds c = folded_scalars

pub returns-clause-flow_nodes : goal.returns-clause-flow_nodes
returns-clause-flow_nodes c = flow_nodes

pub returns-clause-block_nodes : goal.returns-clause-block_nodes
returns-clause-block_nodes c = block_nodes

pub returns-clause-streams : goal.returns-clause-streams
returns-clause-streams c = stream_tokens

pub returns-clause-readings : goal.returns-clause-readings
returns-clause-readings c = readings_are_said
