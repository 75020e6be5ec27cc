-- Nodes before any letter.
use Rattle.std.proofs.Common.{◌≡◌, ◌≢◌, ◌⊎◌, inl, inr, ℕ, zero, suc, ◌+◌, ◌<◌, ◌≤◌, List, [], ◌∷◌, ◌++◌, length, replicate, arith, sym, ap, subst, ◌∙◌, refl, length-append}
use Rattle.std.specs.Prelude.{slice_index, slice_index_or}
use Rattle.std.proofs.lemmas.List.{append-nil, get_or_append_left}
use Rattle.std.proofs.Math.Seq.{get_or-append_seam}
use Rattle.raid_workload.specs.declared.workload.Workload.{Workload}
use Rattle.raid_boxed.specs.Boxed.{Says}
use Rattle.raid_steps.specs.World.{link, open_world, first_servers}
use Rattle.raid_causes.specs.Histories.{alone}
use Rattle.raid_causes.proofs.Lists.{same_or_not, alike_at}
use Rattle.raid_link.specs.Link.{all_sent, given, IsLink}
use Rattle.raid_link.specs.declared.ends.Sender.{Sender}
use Rattle.raid_link.specs.declared.ends.Receiver.{Receiver}
use Rattle.raid_nodes.specs.Nodes.{IsServer, GoesOn, heard, Goes, IsAlone}
use Rattle.raid_nodes.specs.Settled.{sender_of, receiver_of, WholeNodes}
use Rattle.raid_nodes.specs.Fits.{element_of}
use Rattle.raid_nodes.specs.Opening.{out, input, AreRest, AreOpened}
use Rattle.raid_nodes.specs.Ran.{IsFirst, AreOpen}
use Rattle.raid_nodes.specs.declared.server.Server.{Server}
use Rattle.raid_nodes.specs.declared.node.ServerNode.{ServerNode}

-- the rows from this number on are as they were
pub record AreLeft {X : Type 0} (k : ℕ) (before after : List (List X)) : Type 0 where
  pub long : length after ≡ length before
  pub same : (j : ℕ) → k ≤ j → slice_index_or after j [] ≡ slice_index_or before j []

pub left_none : {X : Type 0} (rows : List (List X)) → AreLeft 0 rows rows
left_none rows = record { long = refl; same = λ j h. refl }

pub left_more : {X : Type 0} (k : ℕ) (before mid after : List (List X)) → AreLeft k before mid → AreRest k mid after → AreLeft (k + 1) before after
left_more k before mid after a r = record { long = r.long ∙ a.long; same = λ j h. r.same j (λ q. omega (arith, q, h)) ∙ a.same j (omega (arith, h)) }

module _ {V : Type 0} {D : V → Type 0} (say : Says V D) (w : Workload) (outs : List (List Sender)) (inputs : List (List Receiver)) where
  -- a server before any letter, as the node with its number, with its ends of the links
  pub record IsSeated (k : ℕ) (x : ServerNode V D) : Type 0 where
    pub number : x.number ≡ k
    pub first : IsFirst say w k x.server
    pub clock : x.clock ≡ 0
    pub journal : x.journal ≡ []
    pub out : x.outs.items ≡ slice_index_or outs k []
    pub input : x.inputs.items ≡ slice_index_or inputs k []

  -- the first so many servers are
  pub record AreSeated (k : ℕ) (xs : List (ServerNode V D)) : Type 0 where
    pub long : length xs ≡ k
    pub each : (j : ℕ) (d : ServerNode V D) → j < k → IsSeated j (slice_index_or xs j d)

  pub seated_none : AreSeated 0 []
  seated_none = record { long = refl; each = λ j d low. absurd (omega (arith, low)) }

  pub seated_more : (k : ℕ) (xs : List (ServerNode V D)) (x : ServerNode V D) → AreSeated k xs → IsSeated k x → AreSeated (k + 1) (xs ++ x ∷ [])
  seated_more k xs x s is = record { long = length-append xs (x ∷ []) ∙ ap (λ n. n + 1) s.long; each = λ j d low. go j d low (same_or_not j k) }
    where
      go : (j : ℕ) (d : ServerNode V D) → j < k + 1 → (j ≡ k) ⊎ (j ≢ k) → IsSeated j (slice_index_or (xs ++ x ∷ []) j d)
      go j d low (inl q) =
          subst (λ n. IsSeated n (slice_index_or (xs ++ x ∷ []) n d)) (sym q)
          (subst (IsSeated k) (sym (subst (λ n. slice_index_or (xs ++ x ∷ []) n d ≡ x) s.long (get_or-append_seam xs x [] d))) is)
      go j d low (inr off) =
          let under : j < k = omega (arith, low, off) in
          let l = s.long in
          subst (IsSeated j) (sym (get_or_append_left xs (x ∷ []) d j (omega (arith, under, l)))) (s.each j d under)

  seated_goes : (k : ℕ) (x : ServerNode V D) → k < w.sites + 2 → AreOpened w outs inputs → IsSeated k x → Goes say w x
  seated_goes k x low o s = record {
    server = s.first.goes;
    state = first_servers w;
    is = subst (λ n. IsServer n x.server (first_servers w)) (sym s.number) s.first.is;
    heard = let h = s.first.none in omega (arith, h);
    outs = ap length s.out ∙ o.each_out k low;
    inputs = ap length s.input ∙ o.each_input k low;
  }

  seated_alone : (k : ℕ) (x : ServerNode V D) → k < w.sites + 2 → AreOpened w outs inputs → IsSeated k x → IsAlone (open_world w).links x (alone (open_world w) k)
  seated_alone k x low o s = record {
    server = subst (λ n. IsServer n x.server (first_servers w)) (sym s.number) s.first.is;
    clock = s.clock ∙ sym (alike_at (w.sites + 2) k 0);
    journal = s.journal ∙ sym (alike_at (w.sites + 2) k []);
    sent = λ j e within.
        let long : length x.outs.items ≡ w.sites + 2 = ap length s.out ∙ o.each_out k low in
        ap (λ ls. all_sent (slice_index_or ls j e)) s.out ∙ o.sent k j e low (omega (arith, within, long)) ∙ ap (λ n. link (open_world w).links j n) (sym s.number)
        ∙ sym (append-nil (link (open_world w).links j x.number));
  }

  pub seated_open : (n : ℕ) (xs : List (ServerNode V D)) → n ≡ w.sites + 2 → AreOpened w outs inputs → AreSeated n xs → AreOpen say w xs
  seated_open n xs same o s =
      let count : length xs ≡ w.sites + 2 = s.long ∙ same in
      let at : (k : ℕ) (d : ServerNode V D) → k < length xs → IsSeated k (slice_index_or xs k d) = λ k d low. s.each k d (omega (arith, low, count, same)) in
      let within : (k : ℕ) → k < length xs → k < w.sites + 2 = λ k low. omega (arith, low, count) in
      record {
        whole = record {
          numbers = λ k d low. (at k d low).number;
          outs = λ k d low. ap length (at k d low).out ∙ o.each_out k (within k low) ∙ sym count;
          inputs = λ k d low. ap length (at k d low).input ∙ o.each_input k (within k low) ∙ sym count;
          links = λ i j d e f low high.
              subst (λ row. IsLink (slice_index_or row j e) (receiver_of (slice_index_or xs j d) i f)) (sym (at i d low).out)
              (subst (λ row. IsLink (out outs i j e) (slice_index_or row i f)) (sym (at j d high).input) (o.are i j e f (within i low) (within j high)));
        };
        count = count;
        go = λ k d low. seated_goes k (slice_index_or xs k d) (within k low) o (at k d low);
        alone = λ k d low. seated_alone k (slice_index_or xs k d) (within k low) o (at k d low);
        given = λ k j d f low high. ap (λ row. given (slice_index_or row j f)) (at k d low).input ∙ o.given j k f (within j high) (within k low);
      }

pub left_next : {X : Type 0} (k n : ℕ) (before mid after : List (List X)) → n ≡ k + 1 → AreLeft k before mid → AreRest k mid after → AreLeft n before after
left_next k n before mid after q a r = subst (λ m. AreLeft m before after) (sym q) (left_more k before mid after a r)

-- a server more takes its ends
pub seat_more : {V : Type 0} {D : V → Type 0} (say : Says V D) (w : Workload) (outs : List (List Sender)) (inputs : List (List Receiver)) (k n : ℕ) (mouts : List (List Sender)) (minputs : List (List Receiver))
    (xs ys : List (ServerNode V D)) (x : ServerNode V D) (server : Server V D) → n ≡ k + 1 → AreSeated say w outs inputs k xs → AreLeft k outs mouts → AreLeft k inputs minputs → IsFirst say w k server →
    x.number ≡ k → x.server ≡ server → x.clock ≡ 0 → x.journal ≡ [] → x.outs.items ≡ slice_index_or mouts k [] → x.inputs.items ≡ slice_index_or minputs k [] → ys ≡ xs ++ x ∷ [] → AreSeated say w outs inputs n ys
seat_more say w outs inputs k n mouts minputs xs ys x server q s a b first number is clock journal out input all =
    subst (λ m. AreSeated say w outs inputs m ys) (sym q)
    (subst (AreSeated say w outs inputs (k + 1)) (sym all)
    (seated_more say w outs inputs k xs x s
    (record { number = number; first = subst (IsFirst say w k) (sym is) first; clock = clock; journal = journal; out = out ∙ a.same k (omega arith); input = input ∙ b.same k (omega arith) })))
