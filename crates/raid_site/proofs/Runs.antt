-- What the parts of a server rest on, from letter to letter.
use Rattle.std.proofs.Common.{◌≡◌, ℕ, ◌+◌, ◌<◌, nat_lt, nat_le, true, List, [], ◌∷◌, map, arith, ap, ◌∙◌, refl}
use Rattle.std.proofs.lemmas.Bool.{and_parts, and_from}
use Rattle.raid_workload.specs.declared.workload.Workload.{Workload}
use Rattle.raid_message.specs.declared.letter.Letter.{Letter}
use Rattle.raid_steps.specs.State.{Out, Turn, SiteState}
use Rattle.raid_steps.specs.Site.{hear_site}
use Rattle.raid_driver.specs.declared.task.Task.{Task}
use Rattle.raid_driver.specs.Drive.{may_ask}
use Rattle.raid_vote.specs.declared.changes.Ballot.{Ballot}
use Rattle.raid_site.specs.declared.parts.Parts.{Parts}
use Rattle.raid_site.specs.Whole.{running_of, state_of, turn, IsLive, IsWhole}
use Rattle.raid_site.specs.Server.{asks_at_most, Run}
use Rattle.raid_site.proofs.Asking.{asks_once}
use Rattle.raid_site.proofs.Sessions.{stays}

-- who has asked at most as often as letters were heard may ask once more
may_once : (n a : ℕ) → n < 4294967295 → nat_le a n ≡ true → nat_lt a 4294967295 ≡ true
may_once n a few most = grind (arith, few, most)

pub may_ask_from : (bs : List Ballot) (rs : List Task) (n : ℕ) → n < 4294967295 → asks_at_most n (map (running_of bs) rs) ≡ true → may_ask rs ≡ true
may_ask_from bs [] n few most = refl
may_ask_from bs (r ∷ rs) n few most =
    let parts = and_parts (nat_le r.asks n) (asks_at_most n (map (running_of bs) rs)) most in
    and_from (nat_lt r.asks 4294967295) (may_ask rs) (may_once n r.asks few parts.0) (may_ask_from bs rs n few parts.1)

pub run_more : (w : Workload) (p q : Parts) (outs : List Out) (n from : ℕ) (letter : Letter) → Run w p n → turn q outs ≡ hear_site w (state_of p) from letter → IsLive w q → IsWhole w q → Run w q (n + 1)
run_more w p q outs n from letter run is live whole = record {
  live = live;
  whole = whole;
  asks = ap (λ (T : Turn SiteState). asks_at_most (n + 1) T.state.running) is ∙ asks_once w n (state_of p) from letter run.asks;
  session =
      let same = ap (λ (T : Turn SiteState). T.state.session) is in
      let most = (stays w (state_of p) from letter).session in
      let before = run.session in
      omega (arith, same, most, before);
}
