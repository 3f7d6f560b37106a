-- How a running site ends.
use Rattle.std.proofs.Common.{◌≡◌, ℕ, Bool, true, false, List, [], ◌++◌, Option, refl, sym, subst, inl, inr, true≢false}
use Rattle.std.specs.Prelude.{◌⊎◌, IfErr, IfSome, IsErr, IsErrAnd, MatchResult, OnErr, Result, Ok, Err, codes}
use Rattle.std.specs.Io.KnownBytes.{Appends, Keeps}
use Rattle.cmh_console.proofs.LinesSeen.{if_some}
use Rattle.std.proofs.KnownBytes.{Appends-kept, Appends-nil, Appends-trans}
use Rattle.cmh_console.specs.declared.dialogue.DialogueFault.{DialogueFault}
use Rattle.cmh_console.specs.declared.dialogue.DialogueFault.TheVariants as dialogue
use Rattle.cmh_console.proofs.LineLemmas.{at_some}
use Rattle.cmh_frames.specs.Topology.{Topology, is_site}
use Rattle.cmh_console.specs.Device.{Tells}
use Rattle.cmh_console.specs.TopologyFile.{SaysTopology}
use Rattle.cmh_console.specs.Dialogue.{Conversed, IsDialogueFault, begin}
use Rattle.cmh_console.specs.declared.dialogue.Flow.{Flow}
use Rattle.cmh_setting.specs.Setting.{IsSettingFault}
use Rattle.cmh_setting.specs.SiteFaults.{of_dialogue, of_setting}
use Rattle.cmh_setting.specs.declared.setting.SettingFault.{SettingFault}
use Rattle.cmh_setting.specs.declared.setting.SettingFault.TheVariants as setting
use Rattle.cmh_setting.specs.declared.site_fault.SiteFault.{SiteFault}
use Rattle.cmh_setting.specs.declared.site_fault.SiteFault.TheVariants.{JournalDisk, Listen, Output, Memory}
use Rattle.cmh_run_site.specs.Endings.{EndedEarly, IsSiteFault, Knows, Served, Welcomed}
use Rattle.cmh_run_site.specs.SiteTalk.{IsTurnOfSite}

-- a text, and then what was written of another
wrote_behind : (r : Result Flow DialogueFault) (a b c : Option (List ℕ)) (has_failed : Bool) (x y : List ℕ) → Appends a b x
    → MatchResult r (λ flow. Appends b c y) (λ fault. Tells b c has_failed y)
    → MatchResult r (λ flow. Appends a c (x ++ y)) (λ fault. Tells a c has_failed (x ++ y))
wrote_behind (Ok flow) a b c has_failed x y first further = Appends-trans a b c x y first further
wrote_behind (Err fault) a b c has_failed x y first (inl failed) = inl failed
wrote_behind (Err fault) a b c has_failed x y first (inr further) = inr (Appends-trans a b c x y first further)

module _ (t : Topology) (site : ℕ) (start : Option (List ℕ)) (old : Option (List ℕ)) where
  pub welcomed : (was : Bool) (said kept new : Option (List ℕ)) (has_failed : Bool) (r : Result Flow DialogueFault) → Appends old said (codes "listening\n") → Keeps said kept
      → IfSome start (λ bytes. Conversed (IsTurnOfSite t site) was bytes kept new has_failed r) → IfSome start (λ bytes. Welcomed t site was bytes old new has_failed r)
  welcomed was said kept new has_failed r first same talked = if_some start _ (λ bytes e.
      let c = at_some start (λ bytes. Conversed (IsTurnOfSite t site) was bytes kept new has_failed r) bytes e talked in
      record { text = c.text; is = c.is; wrote = wrote_behind r old kept new has_failed (codes "listening\n") c.text (Appends-kept _ _ _ _ first same) c.wrote })

  -- the writer failed before any line was read
  pub unwelcomed : (was : Bool) (new : Option (List ℕ)) (has_failed : Bool) (r : Result Flow DialogueFault) → IsErr r → has_failed ≡ true
      → IfSome start (λ bytes. Welcomed t site was bytes old new has_failed r)
  unwelcomed was new has_failed (Ok flow) err failed = absurd (true≢false (sym err))
  unwelcomed was new has_failed (Err fault) err failed = if_some start _ (λ bytes e.
      record { text = []; is = (bytes, was, begin); wrote = inl failed })

-- a site of this topology file that was started for this, and was not connected
module _ (topology : List ℕ) (t : Topology) (site : ℕ) (says : SaysTopology topology t) (has_site : is_site t site ≡ true)
    (start old : Option (List ℕ)) (t' : Topology) (here : ℕ) (was : Bool) (same : t' ≡ t) (kept : here ≡ site) (unconnected : was ≡ false)
    (said : Option (List ℕ)) (has_failed : Bool) (r : Result Flow DialogueFault)
    (talked : IfSome start (λ bytes. Welcomed t' here was bytes old said has_failed r)) where
  talked_here : (ended : Result Flow DialogueFault) → r ≡ ended → IfSome start (λ bytes. Welcomed t site false bytes old said has_failed ended)
  talked_here ended is =
      subst (λ (x : Result Flow DialogueFault). IfSome start (λ bytes. Welcomed t site false bytes old said has_failed x)) is
      (subst (λ (w : Bool). IfSome start (λ bytes. Welcomed t site w bytes old said has_failed r)) unconnected
      (subst (λ (s : ℕ). IfSome start (λ bytes. Welcomed t s was bytes old said has_failed r)) kept
      (subst (λ (u : Topology). IfSome start (λ bytes. Welcomed u here was bytes old said has_failed r)) same talked)))

  pub served : (stopped flushed : Option (List ℕ)) (flow : Flow) → r ≡ Ok flow → Appends said stopped (codes "stopped\n") → Keeps stopped flushed
      → IfSome start (λ bytes. Served topology site bytes old flushed)
  served stopped flushed flow is last keeps = if_some start _ (λ bytes e.
      let w = at_some start (λ bytes. Welcomed t site false bytes old said has_failed (Ok flow)) bytes e (talked_here (Ok flow) is) in
      record {
        t = t;
        says = says;
        has_site = has_site;
        text = w.text;
        flow = flow;
        is = w.is;
        wrote = Appends-trans old said flushed (codes "listening\n" ++ w.text) (codes "stopped\n") w.wrote (Appends-kept _ _ _ _ last keeps);
      })

  -- a line was not answered
  pub wrote_some : (fault : DialogueFault) → r ≡ Err fault → IfSome start (λ bytes. EndedEarly topology site bytes old said has_failed)
  wrote_some fault is = if_some start _ (λ bytes e.
      let w = at_some start (λ bytes. Welcomed t site false bytes old said has_failed (Err fault)) bytes e (talked_here (Err fault) is) in
      record {
        text = codes "listening\n" ++ w.text;
        is = inr (t, says, (has_site, record { rest = w.is.0; answers = w.text; is_connected = w.is.1; is = w.is.2; text_is = refl }));
        wrote = w.wrote;
      })

-- ---- what a site that ends early wrote

pub on_err : {X : Type 0} (r : Result X SiteFault) (P : Type 0) → P → OnErr r P
on_err (Ok x) P p = tt
on_err (Err fault) P p = p

module _ (topology : List ℕ) (site : ℕ) (start old : Option (List ℕ)) where
  -- before it said that it listens
  pub wrote_nothing : (has_failed : Bool) → IfSome start (λ bytes. EndedEarly topology site bytes old old has_failed)
  wrote_nothing has_failed = if_some start _ (λ bytes e. record { text = []; is = inl refl; wrote = inr (Appends-nil old) })

  -- where the writer failed
  pub wrote_until : (new : Option (List ℕ)) (has_failed : Bool) → has_failed ≡ true
      → IfSome start (λ bytes. EndedEarly topology site bytes old new has_failed)
  wrote_until new has_failed failed = if_some start _ (λ bytes e. record { text = []; is = inl refl; wrote = inl failed })

-- ---- why a site ends early

module _ (topology : List ℕ) (site : ℕ) (bytes : Option (List ℕ)) (read_failed write_failed : Bool) {X : Type 0} (r : Result X SiteFault) where
  caused : (fault : SiteFault) → IsErrAnd r (λ named. named ≡ fault) → IsSiteFault topology site bytes read_failed write_failed fault
      → IfErr r (IsSiteFault topology site bytes read_failed write_failed)
  caused fault is cause = of_result r is
    where
      of_result : (x : Result X SiteFault) → IsErrAnd x (λ named. named ≡ fault) → IfErr x (IsSiteFault topology site bytes read_failed write_failed)
      of_result (Ok y) same = tt
      of_result (Err named) same = subst (IsSiteFault topology site bytes read_failed write_failed) (sym same) cause

  -- the topology file is that of no sites with ports
  pub setting_err : (lower : SettingFault) → IsErrAnd r (λ fault. fault ≡ of_setting lower) → IsSettingFault topology lower
      → IfErr r (IsSiteFault topology site bytes read_failed write_failed)
  setting_err lower is cause = caused (of_setting lower) is (of_lower lower cause)
    where
      of_lower : (fault : SettingFault) → IsSettingFault topology fault → IsSiteFault topology site bytes read_failed write_failed (of_setting fault)
      of_lower setting.Json h = h
      of_lower (setting.Topology fault) h = h
      of_lower setting.Memory h = tt

  -- the site does not start
  pub start_err : (lower : SiteFault) → IsErrAnd r (λ fault. fault ≡ lower) → (lower ≡ Listen) ⊎ (lower ≡ JournalDisk) ⊎ (lower ≡ Memory)
      → Knows topology site true → IfErr r (IsSiteFault topology site bytes read_failed write_failed)
  start_err lower is which known = caused lower is (of_lower which)
    where
      of_lower : (lower ≡ Listen) ⊎ (lower ≡ JournalDisk) ⊎ (lower ≡ Memory) → IsSiteFault topology site bytes read_failed write_failed lower
      of_lower (inl listen) = subst (IsSiteFault topology site bytes read_failed write_failed) (sym listen) known
      of_lower (inr (inl disk)) = subst (IsSiteFault topology site bytes read_failed write_failed) (sym disk) known
      of_lower (inr (inr memory)) = subst (IsSiteFault topology site bytes read_failed write_failed) (sym memory) tt

  -- a line is not read or not answered
  pub dialogue_err : (lower : DialogueFault) → IsErrAnd r (λ fault. fault ≡ of_dialogue lower) → IsDialogueFault bytes read_failed write_failed lower
      → IfErr r (IsSiteFault topology site bytes read_failed write_failed)
  dialogue_err lower is cause = caused (of_dialogue lower) is (of_lower lower cause)
    where
      of_lower : (fault : DialogueFault) → IsDialogueFault bytes read_failed write_failed fault
          → IsSiteFault topology site bytes read_failed write_failed (of_dialogue fault)
      of_lower dialogue.Input h = h
      of_lower dialogue.Output h = h
      of_lower dialogue.Memory h = tt

  -- the last line is not written
  pub write_err : IsErrAnd r (λ fault. fault ≡ Output) → write_failed ≡ true → IfErr r (IsSiteFault topology site bytes read_failed write_failed)
  write_err is failed = caused Output is failed
