use Rattle.std.proofs.Common.{refl, ap, subst, ◌∙◌, List, ◌&&◌, ◌||◌}
use Rattle.raid_base.specs.declared.names.Site.{Site}
use Rattle.raid_base.specs.declared.entry.Entry.TheVariants as entries
use Rattle.raid_base.specs.Names.{is_site}
use Rattle.raid_faillock.specs.Sets.{has_at}
use Rattle.raid_faillock.specs.Debts.{owed_for}
use Rattle.raid_faillock.specs.Stands.{Parts, Turns}
use Rattle.raid_faillock.proofs.Stand.{at_site}
use Rattle.raid_faillock.proofs.faillocks.FailLocks.down.Goals as goal

pub returns : goal.returns
returns c =
    subst (λ (f : Parts). Turns f (record { holders = c.self.inside.holders.items; locks = c.lock_unpaid.new.locks; debts = c.down.new.self; vector = c.after_down-self-inside.result }) (entries.Down c.args.site)) c.self.view_is
    (record {
      holders = refl;
      locks = λ s x least most.
          c.lock_unpaid.ensures.locks s x least most
          ∙ ap (λ (h : List (List Site)). has_at c.self.inside.locks x.0 s || (owed_for c.self.inside.debts c.args.site x && is_site s c.args.site && has_at h x.0 s)) c.as_slice.ensures.value
          ∙ at_site c.self.inside.debts s c.args.site x (has_at c.self.inside.locks x.0 s) (has_at c.self.inside.holders.items x.0 s);
      debts = c.down.ensures;
      vector = c.after_down-self-inside.ensures.is;
    })
