-- Where the taps of a station lead.
use Rattle.std.proofs.Common.{◌≡◌, ℕ, List, [], ◌∷◌, map, refl, ap, ◌∙◌}
use Rattle.std.specs.List.{AllZip}
use Rattle.cmh_station.specs.LinkEnds.{Link, Tap}
use Rattle.cmh_links.specs.Threads.{site_of}

-- as the links do, if each is the tap of its link
pub taps_lead : (IsTap : Link → Tap → Type 0) (links : List Link) (taps : List Tap) → AllZip IsTap links taps
    → ((link : Link) (tap : Tap) → IsTap link tap → tap.to ≡ link.to) → map site_of taps ≡ map (λ link. link.to) links
taps_lead IsTap [] [] zip same = refl
taps_lead IsTap [] (tap ∷ taps) zip same = absurd zip
taps_lead IsTap (link ∷ links) [] zip same = absurd zip
taps_lead IsTap (link ∷ links) (tap ∷ taps) zip same =
    ap (λ to. to ∷ map site_of taps) (same link tap zip.0)
    ∙ ap (λ sites. link.to ∷ sites) (taps_lead IsTap links taps zip.1 same)
