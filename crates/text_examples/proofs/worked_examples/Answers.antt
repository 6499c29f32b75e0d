-- Each worked example was computed.
use Rattle.text_examples.proofs.Computed.{all_hold}
use Rattle.text_examples.proofs.worked_examples.Goals as goal

pub returns : goal.returns
returns c = all_hold
