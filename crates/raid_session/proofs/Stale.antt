-- A stale request is one whose vector doesn't agree with the present one.
use Rattle.std.proofs.Common.{◌≡◌, ◌==◌, Bool, not, ◌&&◌, ◌||◌, List, [], ◌∷◌, filter, refl, arith}
use Rattle.std.specs.List.{list_any, list_all}
use Rattle.std.proofs.lemmas.Grind.{common_steps}
use Rattle.raid_base.specs.declared.names.Site.{Site}
use Rattle.raid_base.specs.declared.entry.Noted.{Noted}
use Rattle.raid_base.specs.declared.request.Request.{Request}
use Rattle.raid_workload.specs.declared.workload.Workload.{Workload}
use Rattle.raid_workload.specs.Parts.{sites}
use Rattle.raid_legal.specs.Seen.{vector, is_up, holds_some}
use Rattle.raid_legal.specs.Answers.{is_stale}
use Rattle.raid_base.specs.Sites.{session}
use Rattle.raid_session.specs.Agreed.{agree}

-- among those that pass two tests one fails a third where not all of those that pass the one fail the other or pass the third
some_fail : (up holds same : Site → Bool) (ss : List Site) →
    list_any (λ s. not (same s)) (filter (λ s. up s && holds s) ss) ≡ not (list_all (λ s. not (up s) || same s) (filter holds ss))
some_fail up holds same [] = refl
some_fail up holds same (s ∷ ss) = grind (arith, common_steps, some_fail up holds same ss)

pub stale_where_not_agreed : (w : Workload) (p : List Noted) (request : Request) →
    is_stale w p request ≡ not (agree request.under (vector w p) (filter (holds_some w request.writes) (sites w)))
stale_where_not_agreed w p request =
    some_fail (is_up w p) (holds_some w request.writes) (λ s. session (vector w p) s == session request.under s) (sites w)
