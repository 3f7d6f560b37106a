-- How many links a site has, and where they lead.
use Rattle.std.proofs.Common.{◌≡◌, ℕ, ◌+◌, ◌≤◌, Bool, false, List, ◌++◌, length, map, reverse, sym, ap, subst, arith}
use Rattle.std.specs.Prelude.{MatchBool}
use Rattle.std.proofs.lemmas.List.{length-append, length-map, length-reverse}
use Rattle.cmh_frames.specs.Topology.{Topology}
use Rattle.cmh_station.specs.LinkEnds.{Tap}
use Rattle.cmh_links.specs.Threads.{site_of}
use Rattle.cmh_talk.specs.Ends.{others_of}
use Rattle.cmh_talk.specs.declared.site_reply.SiteReply.TheVariants.{Connected, Late}
use Rattle.cmh_run_site.specs.SiteTalk.{IsConnected, LeadToOthers}

-- no more taps wait than there are links
few_waiting : (opened sites : List ℕ) (waiting : List Tap) → opened ++ map site_of (reverse waiting) ≡ sites → length waiting ≤ length sites
few_waiting opened sites waiting is =
    let whole = length-append opened (map site_of (reverse waiting)) in
    let back = length-map (reverse waiting) site_of in
    let turned = length-reverse waiting in
    let same = ap length is in
    omega (arith, whole, back, turned, same)

-- links were opened whose taps waited
pub counted : (t : Topology) (site : ℕ) (opened : List ℕ) (waiting : List Tap) (count : ℕ) (was : Bool) (connected failed : ℕ)
    → LeadToOthers t site (opened ++ map site_of (reverse waiting)) → count ≡ length waiting → was ≡ false → connected + failed ≤ count
    → MatchBool was (Connected connected failed ≡ Late) (IsConnected t site (Connected connected failed))
counted t site opened waiting count was connected failed lead all unconnected few =
    let most = few_waiting opened (others_of t site) waiting lead in
    let within : connected + failed ≤ length (others_of t site) = omega (arith, most, all, few) in
    subst (λ (w : Bool). MatchBool w (Connected connected failed ≡ Late) (IsConnected t site (Connected connected failed))) (sym unconnected) within

-- the same, by other names of the topology and of the site
pub led_there : (t : Topology) (site : ℕ) (t' : Topology) (here : ℕ) (links : List ℕ) → t' ≡ t → here ≡ site
    → LeadToOthers t' here links → LeadToOthers t site links
led_there t site t' here links same kept lead =
    subst (λ (u : Topology). LeadToOthers u site links) same (subst (λ (s : ℕ). LeadToOthers t' s links) kept lead)
