use Rattle.raid_rounds_tests.proofs.Three.{still_link, whole_three}
use Rattle.raid_rounds_tests.proofs.making.ring_of_three.Goals as goal

pub returns-clause-whole : goal.returns-clause-whole
returns-clause-whole c =
    rw (c.fresh.ensures, c.fresh-2.ensures, c.fresh-3.ensures) (
    whole_three _ _ _
    (still_link _ _ _ c.in_ok-first.ensures.link c.in_ok-send.ensures.same)
    (still_link _ _ _ c.in_ok-second.ensures.link c.in_ok-send-2.ensures.same)
    (still_link _ _ _ c.in_ok-third.ensures.link c.in_ok-send-3.ensures.same)
    )
