use Rattle.ca_c.specs.Calls.{IsHandedBack}
use Rattle.ca_c.proofs.calls.hand_back_once.Goals as goal

pub returns-in_default-clause-handed_back : goal.returns-in_default-clause-handed_back
returns-in_default-clause-handed_back c = rw c.code.ensures IsHandedBack.Memory
