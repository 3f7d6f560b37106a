-- Why a service ends.
use Rattle.std.proofs.Common.{◌≡◌, ℕ, Bool, true, List, sym, subst, inl, inr}
use Rattle.std.specs.Prelude.{◌⊎◌, IfErr, IsErrAnd, OnErr, Result, Ok, Err, is_err}
use Rattle.cmh_setting.specs.Setting.{IsSettingFault}
use Rattle.cmh_setting.specs.declared.setting.SettingFault.{SettingFault}
use Rattle.cmh_setting.specs.declared.setting.SettingFault.TheVariants as setting
use Rattle.cmh_setting.specs.declared.site_fault.SiteFault.{SiteFault}
use Rattle.cmh_setting.specs.declared.site_fault.SiteFault.TheVariants as site
use Rattle.cmh_service.specs.ServiceFaults.{IsServiceFault, Knows, of_setting, of_shortage, of_site}
use Rattle.cmh_service.specs.declared.service_fault.ServiceFault.{ServiceFault}
use Rattle.cmh_service.specs.declared.service_fault.Shortage.{Shortage}
use Rattle.cmh_service.specs.declared.service_fault.Shortage.TheVariants as shortages

-- what a call says of its failure holds once its result is one
pub when_failed : {X E P : Type 0} (r : Result X E) (failed : Bool) → failed ≡ is_err r → failed ≡ true → OnErr r P → P
when_failed (Ok x) failed tells is says = absurd (cc)
when_failed (Err e) failed tells is says = says

module _ (topology : List ℕ) (number : ℕ) (write_failed : Bool) where
  -- what it runs short of, once the site is known
  short : (lower : Shortage) → Knows topology number true → IsServiceFault topology number write_failed (of_shortage lower)
  short shortages.Listen known = known
  short shortages.Memory known = tt

  module _ {X : Type 0} (r : Result X ServiceFault) where
    caused : (fault : ServiceFault) → IsErrAnd r (λ named. named ≡ fault) → IsServiceFault topology number write_failed fault
        → IfErr r (IsServiceFault topology number write_failed)
    caused fault is cause = of_result r is
      where
        of_result : (x : Result X ServiceFault) → IsErrAnd x (λ named. named ≡ fault)
            → IfErr x (IsServiceFault topology number write_failed)
        of_result (Ok y) same = tt
        of_result (Err named) same = subst (IsServiceFault topology number write_failed) (sym same) cause

    -- the topology file is that of no sites with ports
    pub setting_err : (lower : SettingFault) → IsErrAnd r (λ fault. fault ≡ of_setting lower) → IsSettingFault topology lower
        → IfErr r (IsServiceFault topology number write_failed)
    setting_err lower is cause = caused (of_setting lower) is (of_lower lower cause)
      where
        of_lower : (fault : SettingFault) → IsSettingFault topology fault → IsServiceFault topology number write_failed (of_setting fault)
        of_lower setting.Json h = h
        of_lower (setting.Topology fault) h = h
        of_lower setting.Memory h = tt

    -- the site does not start
    pub start_err : (lower : SiteFault) → IsErrAnd r (λ fault. fault ≡ of_site lower)
        → (lower ≡ site.Listen) ⊎ (lower ≡ site.JournalDisk) ⊎ (lower ≡ site.Memory) → Knows topology number true
        → IfErr r (IsServiceFault topology number write_failed)
    start_err lower is which known = caused (of_site lower) is (of_lower which)
      where
        of_lower : (lower ≡ site.Listen) ⊎ (lower ≡ site.JournalDisk) ⊎ (lower ≡ site.Memory)
            → IsServiceFault topology number write_failed (of_site lower)
        of_lower (inl listen) = subst (λ f. IsServiceFault topology number write_failed (of_site f)) (sym listen) known
        of_lower (inr (inl disk)) = subst (λ f. IsServiceFault topology number write_failed (of_site f)) (sym disk) known
        of_lower (inr (inr memory)) = subst (λ f. IsServiceFault topology number write_failed (of_site f)) (sym memory) tt

    -- its clients can't be listened for
    pub short_err : (lower : Shortage) → IsErrAnd r (λ fault. fault ≡ of_shortage lower) → Knows topology number true
        → IfErr r (IsServiceFault topology number write_failed)
    short_err lower is known = caused (of_shortage lower) is (short lower known)
