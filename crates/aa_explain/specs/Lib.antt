pub mod AlikePolicies
pub mod Candidates
pub mod Leads
pub mod NamedAskers
pub mod Standings
pub mod StartLaws
