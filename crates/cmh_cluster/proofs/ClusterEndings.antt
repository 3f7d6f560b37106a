-- How a cluster ends.
use Rattle.std.proofs.Common.{◌≡◌, ℕ, Bool, true, List, [], ◌∷◌, ◌++◌, Option, length, refl, sym, ap, subst, ◌∙◌, inl, inr}
use Rattle.std.specs.Prelude.{◌⊎◌, IfErr, IfOk, IsErrAnd, Result, Ok, Err, flat_map}
use Rattle.std.specs.Io.KnownBytes.{Appends}
use Rattle.std.proofs.lemmas.List.{flat_map_more}
use Rattle.cmh_frames.specs.Topology.{Topology, sites_of}
use Rattle.cmh_console.specs.Device.{Writing}
use Rattle.cmh_console.specs.TopologyFile.{OfTopology, SaysTopology}
use Rattle.std.proofs.KnownBytes.{Appends-nil, Appends-trans}
use Rattle.cmh_files.specs.Audits.{AuditEnds}
use Rattle.cmh_console.specs.Dialogue.{Conversed, IsDialogueFault, begin}
use Rattle.cmh_console.specs.declared.dialogue.DialogueFault.{DialogueFault}
use Rattle.cmh_console.specs.declared.dialogue.DialogueFault.TheVariants as dialogue
use Rattle.cmh_console.specs.declared.keeping.NoFile.{NoFile}
use Rattle.cmh_console.specs.declared.keeping.NoFile.TheVariants as files
use Rattle.cmh_console.specs.declared.dialogue.Flow.{Flow}
use Rattle.cmh_console.specs.declared.dialogue.Flow.TheVariants.{Awaits, Ends}
use Rattle.cmh_cluster.specs.ClusterEndings.{Answered, Begun, EndsInAudit, HasPlayed, IsClusterFault, IsRunFault, IsStartFault, NamesClosed, closed_line}
use Rattle.cmh_cluster.specs.ClusterFaults.{of_dialogue, of_file, of_setting}
use Rattle.cmh_cluster.specs.ClusterTalk.{IsTurnOfCluster}
use Rattle.cmh_cluster.specs.declared.cluster_fault.ClusterFault.{ClusterFault}
use Rattle.cmh_cluster.specs.declared.cluster_fault.ClusterFault.TheVariants.{Json, Topology as NoTopology, ScriptFile, OutFile, Listen, Output, Memory}
use Rattle.cmh_setting.specs.Setting.{IsSettingFault}
use Rattle.cmh_setting.specs.declared.setting.SettingFault.{SettingFault}
use Rattle.cmh_setting.specs.declared.setting.SettingFault.TheVariants as setting
use Rattle.cmh_talk.specs.Steps.{IsDeclared}
use Rattle.cmh_talk.specs.declared.site_reply.ClosedLink.{ClosedLink}
use Rattle.cmh_talk.specs.declared.site_reply.SiteReply.{SiteReply}
use Rattle.cmh_talk.specs.declared.site_reply.SiteReply.TheVariants.{BadLink}

-- ---- links

-- no link was named, and one more
pub none_closed : (out : Option (List ℕ)) → NamesClosed out out
none_closed out = record { links = []; wrote = Appends-nil out }

pub one_more_closed : (old out new : Option (List ℕ)) (link : ClosedLink) → NamesClosed old out → Appends out new (closed_line link) → NamesClosed old new
one_more_closed old out new link c wrote = record {
  links = c.links ++ link ∷ [];
  wrote = subst (λ (text : List ℕ). Appends old new text) (flat_map_more closed_line [] c.links link)
      (Appends-trans old out new (flat_map closed_line c.links) (closed_line link) c.wrote wrote);
}

-- ---- declarations

-- the site of this number told what it declared
pub declared_by : {E : Type 0} (got here number : ℕ) → got ≡ here → got ≡ number → (r : Result SiteReply E) → IfOk r (IsDeclared here)
    → IfOk r (λ reply. IsDeclared number reply ⊎ (reply ≡ BadLink))
declared_by got here number at is (Ok reply) declared = inl (subst (λ (s : ℕ). IsDeclared s reply) (sym at ∙ is) declared)
declared_by got here number at is (Err fault) declared = tt

-- ---- the play of a script

module _ (t : Topology) (script : List ℕ) (old : Option (List ℕ)) where
  -- all lines were answered, and links named after them
  pub answered : (said new : Option (List ℕ)) (has_failed : Bool) (r : Result Flow DialogueFault) (flow : Flow) → r ≡ Ok flow → flow ≡ Awaits
      → Conversed (IsTurnOfCluster t) tt script old said has_failed r → NamesClosed said new → Answered t script old new
  answered said new has_failed r flow is awaits talked closed =
      let replied = subst (λ (x : Result Flow DialogueFault). Conversed (IsTurnOfCluster t) tt script old said has_failed x) (is ∙ ap Ok awaits) talked in
      (said, closed.links, record { text = replied.text; is = replied.is; wrote = replied.wrote }, closed.wrote)

  -- lines were answered up to one
  pub played_to_one : (said : Option (List ℕ)) (has_failed : Bool) (r : Result Flow DialogueFault) (flow : Flow) → r ≡ Ok flow → flow ≡ Ends
      → Conversed (IsTurnOfCluster t) tt script old said has_failed r → HasPlayed t script old said Ends
  played_to_one said has_failed r flow is ends talked =
      let replied = subst (λ (x : Result Flow DialogueFault). Conversed (IsTurnOfCluster t) tt script old said has_failed x) (is ∙ ap Ok ends) talked in
      record { text = replied.text; is = replied.is; wrote = replied.wrote }

  -- no line was answered yet
  not_begun : (has_failed : Bool) → Begun t script old old has_failed
  not_begun has_failed = record { text = []; is = (script, tt, begin); wrote = inr (Appends-nil old) }

  start_fault : (has_failed : Bool) (fault : ClusterFault) → IsStartFault fault → IsRunFault t script old old has_failed fault
  start_fault has_failed OutFile h = refl
  start_fault has_failed Listen h = refl
  start_fault has_failed Memory h = not_begun has_failed
  start_fault has_failed ScriptFile h = absurd h
  start_fault has_failed Json h = absurd h
  start_fault has_failed (NoTopology fault) h = absurd h
  start_fault has_failed Output h = absurd h

  -- the sites don't start
  pub start_fault_err : (has_failed : Bool) (r : Result Flow ClusterFault) (lower : ClusterFault) → IsErrAnd r (λ fault. fault ≡ lower) → IsStartFault lower
      → IfErr r (IsRunFault t script old old has_failed)
  start_fault_err has_failed (Ok x) lower is h = tt
  start_fault_err has_failed (Err fault) lower is h = subst (IsRunFault t script old old has_failed) (sym is) (start_fault has_failed lower h)

  module _ (new : Option (List ℕ)) (has_failed : Bool) where
    run_fault : (bytes : Option (List ℕ)) (read_failed : Bool) (fault : DialogueFault) → Begun t script old new has_failed → IsDialogueFault bytes read_failed has_failed fault
        → IsRunFault t script old new has_failed (of_dialogue fault)
    run_fault bytes read_failed dialogue.Input begun h = begun
    run_fault bytes read_failed dialogue.Memory begun h = begun
    run_fault bytes read_failed dialogue.Output begun h = h

    -- a line was not read or not answered
    pub run_fault_at : (bytes : Option (List ℕ)) (read_failed : Bool) (r : Result Flow DialogueFault) (fault : DialogueFault) (named : ClusterFault) → r ≡ Err fault → named ≡ of_dialogue fault
        → Conversed (IsTurnOfCluster t) tt script old new has_failed r → IfErr r (IsDialogueFault bytes read_failed has_failed) → IsRunFault t script old new has_failed named
    run_fault_at bytes read_failed r fault named is name talked h =
        let replied = subst (λ (x : Result Flow DialogueFault). Conversed (IsTurnOfCluster t) tt script old new has_failed x) is talked in
        let cause = subst (λ (x : Result Flow DialogueFault). IfErr x (IsDialogueFault bytes read_failed has_failed)) is h in
        let begun : Begun t script old new has_failed = record { text = replied.text; is = replied.is; wrote = replied.wrote } in
        subst (IsRunFault t script old new has_failed) (sym name) (run_fault bytes read_failed fault begun cause)

-- ---- the whole command

module _ (topology script : List ℕ) (old new : Option (List ℕ)) (has_failed : Bool) {X : Type 0} (r : Result X ClusterFault) where
  caused : (fault : ClusterFault) → IsErrAnd r (λ named. named ≡ fault) → IsClusterFault topology script old new has_failed fault
      → IfErr r (IsClusterFault topology script old new has_failed)
  caused fault is cause = of_result r is
    where
      of_result : (x : Result X ClusterFault) → IsErrAnd x (λ named. named ≡ fault) → IfErr x (IsClusterFault topology script old new has_failed)
      of_result (Ok y) same = tt
      of_result (Err named) same = subst (IsClusterFault topology script old new has_failed) (sym same) cause

  -- the topology file is that of no sites with ports
  pub setting_err : (lower : SettingFault) → IsErrAnd r (λ fault. fault ≡ of_setting lower) → IsSettingFault topology lower → new ≡ old
      → IfErr r (IsClusterFault topology script old new has_failed)
  setting_err lower is cause same = caused (of_setting lower) is (of_lower lower cause)
    where
      of_lower : (fault : SettingFault) → IsSettingFault topology fault → IsClusterFault topology script old new has_failed (of_setting fault)
      of_lower setting.Json h = (h, same)
      of_lower (setting.Topology fault) h = (h, same)
      of_lower setting.Memory h = inl same

  -- the sites are not started, or end before their script's end
  pub run_err : (world : Topology) (lower : ClusterFault) → SaysTopology topology world → IsErrAnd r (λ fault. fault ≡ lower)
      → IsRunFault world script old new has_failed lower → IfErr r (IsClusterFault topology script old new has_failed)
  run_err world lower says is cause = caused lower is (of_lower lower cause)
    where
      of_lower : (fault : ClusterFault) → IsRunFault world script old new has_failed fault → IsClusterFault topology script old new has_failed fault
      of_lower OutFile h = (world, says, inl h)
      of_lower Listen h = (world, says, h)
      of_lower ScriptFile h = (world, says, h)
      of_lower Memory h = inr (world, says, inl h)
      of_lower Output h = h
      of_lower Json h = absurd h
      of_lower (NoTopology fault) h = absurd h

  -- that they did not settle is not written
  pub write_err : IsErrAnd r (λ fault. fault ≡ Output) → has_failed ≡ true → IfErr r (IsClusterFault topology script old new has_failed)
  write_err is failed = caused Output is failed

-- all lines were answered, and the journals are not read back
pub unread_back : {X : Type 0} → (topology script : List ℕ) (world : Topology) (old new : Option (List ℕ)) (has_failed : Bool) (r : Result X ClusterFault) (lower : NoFile)
    → SaysTopology topology world → Answered world script old new → IsErrAnd r (λ fault. fault ≡ of_file lower)
    → IfErr r (IsClusterFault topology script old new has_failed)
unread_back topology script world old new has_failed (Ok x) lower says all is = tt
unread_back topology script world old new has_failed (Err fault) files.Disk says all is =
    subst (IsClusterFault topology script old new has_failed) (sym is) (world, says, inr all)
unread_back topology script world old new has_failed (Err fault) files.Memory says all is =
    subst (IsClusterFault topology script old new has_failed) (sym is) (inr (world, says, inr all))

-- the files that were read back were audited
pub audited : {W E : Type 0} (topology script : List ℕ) (old before new : Writing W) (err_old err_new : Writing E) (status : ℕ) (files read : List (List ℕ))
    → AuditEnds topology files before new err_old err_new status → files ≡ read
    → OfTopology topology (λ world. Answered world script old.written before.written × (length read ≡ length (sites_of world))) → EndsInAudit topology script old new err_old err_new status
audited topology script old before new err_old err_new status files read ends same reads = record {
  files = files;
  before = before;
  reads = subst (λ (fs : List (List ℕ)). OfTopology topology (λ world. Answered world script old.written before.written × (length fs ≡ length (sites_of world)))) (sym same) reads;
  ends = ends;
}
