-- Each step of a site keeps what copiers tell: a source that is told to send its copy has the item's version, and what comes is told of.
use Rattle.std.proofs.Common.{◌≡◌, ◌⊎◌, inl, inr, ℕ, ℤ, suc, ◌+◌, ◌-◌, ◌≤◌, ◌==◌, Bool, true, false, ◌&&◌, List, [], ◌∷◌, Some, arith, sym, subst, ap, ◌∙◌}
use Rattle.std.specs.Prelude.{slice_get}
use Rattle.std.specs.List.{AllByRecursion}
use Rattle.std.proofs.lemmas.Bool.{eqb-true, true≢false}
use Rattle.raid_base.specs.declared.names.Item.{Item}
use Rattle.raid_base.specs.declared.names.Site.{Site}
use Rattle.raid_base.specs.declared.entry.Noted.{Noted}
use Rattle.raid_base.specs.Sites.{session, site}
use Rattle.raid_workload.specs.declared.workload.Workload.{Workload}
use Rattle.raid_rules.specs.History.{noted, version}
use Rattle.raid_legal.specs.Seen.{vector}
use Rattle.raid_message.specs.declared.letter.Message.{Message}
use Rattle.raid_message.specs.declared.letter.Message.TheVariants as letters
use Rattle.raid_message.specs.declared.letter.Letter.{Letter}
use Rattle.raid_steps.specs.State.{Out, Turn, Copy, SiteState}
use Rattle.raid_steps.specs.Fits.{knows_site}
use Rattle.raid_steps.specs.Copies.{copy_of}
use Rattle.raid_steps.specs.Site.{hear_site}
use Rattle.raid_steps.specs.World.{World, link, set_link}
use Rattle.raid_steps.proofs.Parts.{number_known}
use Rattle.raid_sessions.proofs.Agreed.{told_up}
use Rattle.raid_sessions.proofs.Lists.{all_weaken, get_below}
use Rattle.raid_sessions.proofs.Mail.{moved}
use Rattle.raid_sessions.proofs.Site.{SiteStep, site_step}
use Rattle.raid_sessions.proofs.Site as steps
use Rattle.raid_asks.proofs.Facts.{or_parts}
use Rattle.raid_moves.specs.Moves.{Tells, Says}
use Rattle.raid_letters.specs.Says.{NoteSays, CopyDoSays}
use Rattle.raid_letters.proofs.Runs.{LetterSays, QueueSays}
use Rattle.raid_versions.specs.Versions.{was_written, IsLive, applies, is_pending, latest, NonePending, HaveLastVersions}
use Rattle.raid_versions.proofs.Links.{IsUnapplied, after_none, latest_quiet}
use Rattle.raid_versions.proofs.Owed.{Known}
use Rattle.raid_versions.proofs.SiteParts.{IsQuiet, IsSent, Copied, step_copies}
use Rattle.raid_versions.proofs.SiteParts as made
use Rattle.raid_versions.proofs.SiteVersions.{front_of, hears_live}
use Rattle.raid_told.specs.Copiers.{Awaits, IsCurrent, IsOff, AreOff, Copies, Asks, Speaks, QueueTells, LinksTell}
use Rattle.raid_told.proofs.Queues.{SiteSent, site_posts, front_taken}

-- where no letter has a write of the item applied, none is pending
none_pending : (p : List Noted) (x : Item) (m : ℕ) (ls : List Letter) → AreOff p x ls → NonePending p x m ls
none_pending p x m [] off number pending = absurd (true≢false (sym pending))
none_pending p x m (l ∷ ls) off number pending = elim (or_parts (l.to == m && applies number l.message) (is_pending m number ls) pending) [
  | inl here ↦ go (l.to == m) l.message off.0 here
  | inr more ↦ none_pending p x m ls off.1 number more
]
  where
    go : (b : Bool) (message : Message) → IsOff p x message → (b && applies number message) ≡ true → was_written p x number ≡ false
    go true (letters.Apply t n) off is = subst (λ z. was_written p x z ≡ false) (eqb-true n number is) off
    go true other off is = absurd (true≢false (sym is))
    go false message off is = absurd (true≢false (sym is))

module _ (w : Workload) (state : World) (known : Known w state) (last : HaveLastVersions state) (from clock : ℕ) (letter : Letter) (rest : List Letter) (j : ℕ) (own : SiteState)
    (at : slice_get state.servers.sites j ≡ Some own) (front : link state.links (suc (suc j)) from ≡ letter ∷ rest) (tells : LinksTell w (noted state.servers.sequencer.history) state.links) where
  abbrev p : List Noted
  p = noted state.servers.sequencer.history

  abbrev here : Site
  here = site (j + 1)

  abbrev turn : Turn SiteState
  turn = hear_site w own from letter

  here_is : site (suc (suc j) - 1) ≡ here
  here_is = ap site (let e : suc (suc j) - 1 ≡ j + 1 = omega arith in e)

  here_known : knows_site w here ≡ true
  here_known = number_known w j (let b = get_below state.servers.sites j own at in let long = known.says.reached.long in omega (arith, b, long))

  -- what the letter tells, by whose it is
  front_tells : (d : ℕ) → from ≡ d → QueueTells w p (suc (suc j)) d (letter ∷ rest)
  front_tells d of = subst (λ d. QueueTells w p (suc (suc j)) d (letter ∷ rest)) of (subst (QueueTells w p (suc (suc j)) from) front (tells (suc (suc j)) from))

  -- the copy that a site is told to send
  module _ (x : Item) (target : Site) (n : ℕ) (c : Copy) (does : Tells w own from letter (letters.CopyDo x target n)) (has : copy_of own x ≡ Some c) (wanted : knows_site w target ≡ true) where
    live : IsLive p state.servers.sites j own
    live = hears_live w state known last from clock letter rest j own at front does.heard (λ none. (let one = does.by in omega (arith, none, one)))

    asked : Copies w p here letter.to x target n rest
    asked = subst (λ m. Asks w p here letter.to m rest) does.is (subst (λ z. Asks w p z letter.to letter.message rest) here_is (front_tells 1 does.by).0) here_known wanted

    says : CopyDoSays w here x target
    says = subst (NoteSays w p here letter.to) does.is (subst (λ z. NoteSays w p z letter.to letter.message) here_is (subst (λ d. LetterSays w p (suc (suc j)) d letter) does.by (subst (QueueSays w p (suc (suc j)) from) front (known.says.says (suc (suc j)) from)).0))

    meant : letter.to ≡ own.session
    meant = eqb-true letter.to own.session does.heard.meant

    up : session (vector w p) here ≡ letter.to
    up = told_up w state known.says.reached j own at live.up live.last ∙ sym meant

    some : 1 ≤ letter.to
    some = (let first = (known.says.reached.ledger.accounts here here_known).first in let same = live.last in omega (arith, first, same, meant))

    version_is : Awaits w p target n x → c.version ≡ version p x
    version_is waits =
        sym (latest_quiet p x own.session c.version rest (none_pending p x own.session rest (asked.off waits)))
        ∙ ap (λ v. latest p x own.session v rest) (sym (after_none p x own.session c.version letter (subst IsUnapplied (sym does.is) tt)))
        ∙ ap (latest p x own.session c.version) (sym (front_of w state known last from clock letter rest j own at front 1 does.by))
        ∙ (last.kept j own live x c has).current (asked.unlocked says.held some up waits)

    sends : IsCurrent w p target n x c.version
    sends = record { past = asked.target_past; current = version_is }

  -- what is sent besides says nothing of copies
  quiet_speaks : (there : Site) (to n : ℕ) (m : Message) → IsQuiet m → Speaks w p there here to n m
  quiet_speaks there to n (letters.CopyValue x v version) q = absurd q
  quiet_speaks there to n (letters.CopyDone x version) q = absurd q
  quiet_speaks there to n other q = tt

  -- a copy that was brought is told of in the same session
  brought : (k : ℕ) (x : Item) (value : ℤ) (v : ℕ) → Says w own from letter k (letters.CopyValue x value v) → IsCurrent w p here turn.state.session x v
  brought k x value v says = subst (λ n. IsCurrent w p here n x v) (eqb-true letter.to own.session says.heard.meant ∙ sym session_same) current
    where
      current : IsCurrent w p here letter.to x v
      current = subst (λ m. Speaks w p here (site (k + 1)) letter.to letter.from m) says.is (subst (λ z. Speaks w p z (site (k + 1)) letter.to letter.from letter.message) here_is (front_tells (suc (suc k)) says.by).0) here_known

      session_same : turn.state.session ≡ own.session
      session_same = go (site_step w own from letter)
        where
          go : SiteStep own from letter (hear_site w own from letter) → turn.state.session ≡ own.session
          go (steps.stops s) = s.session
          go (steps.returns s) = absurd (true≢false (sym says.heard.up ∙ s.before))
          go (steps.stays s) = s.1

  sent : AllByRecursion (SiteSent w p j turn.state.session) turn.outs
  sent = go (step_copies w own from letter (known.says.homes j own at).ascend)
    where
      each : (Q : Out → Type 0) → ((out : Out) → Q out → SiteSent w p j turn.state.session out) → AllByRecursion (λ (out : Out). IsQuiet out.2 ⊎ Q out) turn.outs → AllByRecursion (SiteSent w p j turn.state.session) turn.outs
      each Q f a = all_weaken (λ (out : Out). IsQuiet out.2 ⊎ Q out) (SiteSent w p j turn.state.session) turn.outs (λ out h. elim h [ inl quiet ↦ quiet_speaks (site (out.0 - 1)) out.1 turn.state.session out.2 quiet | inr special ↦ f out special ]) a

      back : (s : Site) → site (s.0 + 1 - 1) ≡ s
      back s = ap site (let e : s.0 + 1 - 1 ≡ s.0 = omega arith in e)

      copies : (out : Out) → IsSent w own from letter out → SiteSent w p j turn.state.session out
      copies out (made.copied x target n c does has is) =
          subst (SiteSent w p j turn.state.session) (sym is) (subst (λ z. Speaks w p z here n turn.state.session (letters.CopyValue x c.value c.version)) (sym (back target)) (sends x target n c does has))

      go : Copied w own from letter (hear_site w own from letter) → AllByRecursion (SiteSent w p j turn.state.session) turn.outs
      go (made.keeps same passes a) = each (IsSent w own from letter) copies a
      go (made.applies t number ps does q same a) = each (λ out. out ≡ (1, 0, letters.Ack t)) (λ out is. subst (SiteSent w p j turn.state.session) (sym is) tt) a
      go (made.renews k x value v c says q most same a) = each (λ out. out ≡ (1, 0, letters.CopyDone x v)) (λ out is. subst (SiteSent w p j turn.state.session) (sym is) (λ known. brought k x value v says)) a

  pub site_tells : LinksTell w (noted state.servers.sequencer.history) (moved state.links (suc (suc j)) from (hear_site w own from letter).state.session clock rest (hear_site w own from letter).outs)
  site_tells = site_posts w p j turn.state.session clock turn.outs (set_link state.links (suc (suc j)) from rest) sent (front_taken w p state.links (suc (suc j)) from letter rest front tells)
