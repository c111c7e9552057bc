-- The claims on the refusals of key and class hold.
use lib.ListN.{length}
use Rattle.necklace.specs.Claims.{ClassRefusals, KeyRefusals}
use Rattle.necklace.specs.Class.{class_verdict}
use Rattle.necklace.specs.Key.{key_verdict}
use Rattle.refusal.proofs.Conditions.{at_most_tells, chain_first, passed, stations_tell, test}
use Rattle.words.proofs.Claims.{other_tells}

pub key_refusals : KeyRefusals
unfolding key_verdict
key_refusals row room =
    chain_first (test _ (stations_tell (length row)) (λ a. test _ (other_tells 2 row) (λ b. test _ (at_most_tells (length row) room) (λ c. passed))))

pub class_refusals : ClassRefusals
unfolding class_verdict
class_refusals row = chain_first (test _ (stations_tell (length row)) (λ a. test _ (other_tells 2 row) (λ b. passed)))
